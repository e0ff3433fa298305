-- What is known of positions with no fault.
use mathlib.Core.List.{List, [], ◌∷◌}
use mathlib.Core.Path.{◌≡◌, sym, ◌∙◌}
use Prim.Native.Nat.{ℕ, ◌*◌, ◌≤◌, ◌<◌}
use native.Mathlib.Decide.{ℕ_discrete}
use native.Mathlib.Omega.{arith}
use native.Mathlib.Nat.{mul-le-mul, le_trans}
use borrow.Author.Tests.{leb-false, ltb-false}
use lib.ListN.{length}
use Rattle.sums.proofs.Choices.{refused-by}
use Rattle.sums.proofs.Tables.{first-fails}
use Rattle.rows.specs.Rows.{ceiling}
use Rattle.currency.specs.declared.Side.{Side}
use Rattle.currency.specs.declared.Side.TheVariants.{Futures, Short, Long, Spread}
use Rattle.currency.specs.declared.Position.{Position}
use Rattle.currency.specs.Rates.{rate_of}
use Rattle.currency.specs.Charges.{fault_of, first_fault, carried_by, share_of, parts_of, rounded_up, charge_of, charges}
use Rattle.currency.proofs.Table.{rate-most}

pub record Faultless (p : Position) : Type 0 where
  pub known : p.product < 10
  pub rated : rate_of p.product p.side ≤ 750
  pub notional : p.notional ≤ ceiling

pub faultless : (p : Position) → fault_of p ≡ 0 → Faultless p
unfolding fault_of
faultless p e =
    let a = first-fails 18 _ _ (omega arith) e in
    let b = first-fails 19 _ _ (omega arith) a.1 in
    let c = first-fails 20 _ _ (omega arith) b.1 in
    let known = leb-false 10 p.product a.0 in
    record { known = known; rated = rate-most p.product p.side known b.0; notional = ltb-false ceiling p.notional c.0 }

carried-most : (side : Side) (notional : ℕ) → carried_by side notional ≤ notional
carried-most Futures notional = omega arith
carried-most Short notional = omega arith
carried-most Long notional = omega arith
carried-most Spread notional = omega arith

-- so no product of notional and rate passes a word
pub share-most : (p : Position) → fault_of p ≡ 0 → share_of p ≤ ceiling * 750
share-most p e =
    let f = faultless p e in
    mul-le-mul (le_trans (carried-most p.side p.notional) f.notional) f.rated

pub parts-range : (side : Side) → (0 < parts_of side) × (parts_of side ≤ 300000)
parts-range Futures = (omega arith, omega arith)
parts-range Short = (omega arith, omega arith)
parts-range Long = (omega arith, omega arith)
parts-range Spread = (omega arith, omega arith)

rounded-most : (side : Side) (share : ℕ) → share ≤ ceiling * 750 → rounded_up share (parts_of side) ≤ ceiling
rounded-most Futures share h = omega arith
rounded-most Short share h = omega arith
rounded-most Long share h = omega arith
rounded-most Spread share h = omega arith

pub charge-most : (p : Position) → fault_of p ≡ 0 → charge_of p ≤ ceiling
unfolding charge_of
charge-most p e = rounded-most p.side (share_of p) (share-most p e)

-- a position at fault decides
pub fault-first : (p : Position) (rest : List Position) → (fault_of p ≡ 0 → ⊥) → first_fault (p ∷ rest) ≡ fault_of p
unfolding first_fault
fault-first p rest h = sym (refused-by (fault_of p) (first_fault rest) (λ n. n) h)

-- past one that isn't, the others do
pub fault_past : (p : Position) (rest : List Position) → fault_of p ≡ 0 → first_fault (p ∷ rest) ≡ first_fault rest
unfolding first_fault
fault_past p rest e = rw e

-- the first of positions with no fault, and the others
pub none-at-fault : (p : Position) (rest : List Position) → first_fault (p ∷ rest) ≡ 0 → (fault_of p ≡ 0) × (first_fault rest ≡ 0)
none-at-fault p rest e = by (ℕ_discrete (fault_of p) 0)
  where
    by : Dec (fault_of p ≡ 0) → (fault_of p ≡ 0) × (first_fault rest ≡ 0)
    by (yes q) = (q, sym (fault_past p rest q) ∙ e)
    by (no q) = absurd (q (sym (fault-first p rest q) ∙ e))

pub charges-most : (l : List Position) → first_fault l ≡ 0 → charges l ≤ length l * ceiling
unfolding charges
charges-most [] e = omega arith
charges-most (p ∷ rest) e =
    let h = none-at-fault p rest e in
    omega (arith, charge-most p h.0, charges-most rest h.1)
