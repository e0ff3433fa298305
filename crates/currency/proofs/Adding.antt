-- Laws of the charges added up, and of the order of positions.
use mathlib.Core.List.{List, [], ◌∷◌, ◌++◌}
use mathlib.Core.Path.{◌≡◌, ◌∙◌}
use Prim.Native.Nat.{◌+◌}
use native.Mathlib.Omega.{arith}
use Rattle.currency.specs.declared.Position.{Position}
use Rattle.currency.specs.Charges.{first_fault, charge_of, charges}
use Rattle.currency.proofs.Faultless.{fault_past, none-at-fault}

charges-append : (a b : List Position) → charges (a ++ b) ≡ charges a + charges b
unfolding charges
charges-append [] b = omega arith
charges-append (p ∷ a) b = omega (arith, charges-append a b)

-- a position more anywhere adds its charge
pub one_more : (a b : List Position) (p : Position) → charges (a ++ (p ∷ b)) ≡ charges (a ++ b) + charge_of p
unfolding charges
one_more a b p = omega (arith, charges-append a (p ∷ b), charges-append a b)

-- two neighbours exchanged
pub exchanged : (a b : List Position) (p q : Position) → charges (a ++ (p ∷ (q ∷ b))) ≡ charges (a ++ (q ∷ (p ∷ b)))
unfolding charges
exchanged a b p q = omega (arith, charges-append a (p ∷ (q ∷ b)), charges-append a (q ∷ (p ∷ b)))

-- and neither of them is at fault where none was
pub exchanged-faultless : (a b : List Position) (p q : Position) → first_fault (a ++ (p ∷ (q ∷ b))) ≡ 0 → first_fault (a ++ (q ∷ (p ∷ b))) ≡ 0
exchanged-faultless [] b p q e =
    let s = none-at-fault p (q ∷ b) e in
    let t = none-at-fault q b s.1 in
    fault_past q (p ∷ b) t.0 ∙ fault_past p b s.0 ∙ t.1
exchanged-faultless (x ∷ a) b p q e =
    let s = none-at-fault x (a ++ (p ∷ (q ∷ b))) e in
    fault_past x (a ++ (q ∷ (p ∷ b))) s.0 ∙ exchanged-faultless a b p q s.1
