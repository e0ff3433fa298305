-- A charge is the least number of paise not below the exact fraction.
use Prim.Native.Nat.{ℕ, ◌*◌, ◌≤◌}
use native.Mathlib.Omega.{arith}
use Rattle.currency.specs.declared.Side.{Side}
use Rattle.currency.specs.declared.Side.TheVariants.{Futures, Short, Long, Spread}
use Rattle.currency.specs.declared.Position.{Position}
use Rattle.currency.specs.Charges.{share_of, parts_of, rounded_up, charge_of}

not-below : (side : Side) (share : ℕ) → share ≤ rounded_up share (parts_of side) * parts_of side
not-below Futures share = omega arith
not-below Short share = omega arith
not-below Long share = omega arith
not-below Spread share = omega arith

least : (side : Side) (share n : ℕ) → share ≤ n * parts_of side → rounded_up share (parts_of side) ≤ n
least Futures share n h = omega arith
least Short share n h = omega arith
least Long share n h = omega arith
least Spread share n h = omega arith

-- the share, notional times rate, over the parts
pub charge-not-below : (p : Position) → share_of p ≤ charge_of p * parts_of p.side
unfolding charge_of
charge-not-below p = not-below p.side (share_of p)

pub charge-least : (p : Position) (n : ℕ) → share_of p ≤ n * parts_of p.side → charge_of p ≤ n
unfolding charge_of
charge-least p n h = least p.side (share_of p) n h
