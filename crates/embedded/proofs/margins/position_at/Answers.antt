-- `embedded::margins::position_at` meets its contract.
use mathlib.Core.List.{List}
use mathlib.Core.Path.{◌≡◌, ap}
use Prim.Native.Nat.{ℕ, ◌≤◌}
use native.Mathlib.Omega.{arith}
use lib.ListN.{length, get_or, get_or-eq_default}
use Rattle.currency.specs.declared.Side.{Side}
use Rattle.currency.specs.declared.Position.{Position}
use Rattle.embedded.specs.Margins.{side_of, position_at}
use Rattle.embedded.proofs.margins.position_at.Goals as goal

-- beyond the lists
beyond : (products sides notionals : List ℕ) (i : ℕ) (side : Side) → length products ≤ i → length sides ≤ i → length notionals ≤ i → side ≡ side_of 0
    → ◌≡◌ {A = Position} (record { product = 0; side = side; notional = 0 }) (position_at products sides notionals i)
beyond products sides notionals i side p s n e =
    let zp : get_or products i 0 ≡ 0 = get_or-eq_default products 0 p in
    let zs : get_or sides i 0 ≡ 0 = get_or-eq_default sides 0 s in
    let zn : get_or notionals i 0 ≡ 0 = get_or-eq_default notionals 0 n in
    rw (zp, zs, zn) (ap (λ x. record { product = 0; side = x; notional = 0 }) e)

pub returns-then-products-i : goal.returns-then-products-i
returns-then-products-i c =
    let s = c in
    let a = s.args in
    beyond a.products.now a.sides.now a.notionals.now a.i _ (omega arith) (omega (arith, s.requires.0)) (omega (arith, s.requires.1)) c.side_of-side.ensures

pub returns : goal.returns
returns c =
    let a = c.args in
    ap (λ x. record { product = get_or a.products.now a.i 0; side = x; notional = get_or a.notionals.now a.i 0 }) c.side_of-side-2.ensures
