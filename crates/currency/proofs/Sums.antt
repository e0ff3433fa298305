-- What the margins of two lists of positions have to do with each other.
use mathlib.Core.List.{List, ◌∷◌, ◌++◌}
use mathlib.Core.Path.{◌≡◌, sym, ap, ◌∙◌}
use Prim.Native.Nat.{ℕ, ◌+◌, ◌≤◌}
use native.Mathlib.Omega.{arith}
use lib.ListN.{take}
use Rattle.dayfile.specs.declared.Record.{Record}
use Rattle.currency.specs.declared.Position.{Position}
use Rattle.currency.specs.declared.Made.TheVariants.{Given}
use Rattle.currency.specs.Charges.{first_fault, charges}
use Rattle.currency.specs.Margins.{sum_of, margin_record, made_of}
use Rattle.currency.proofs.Making.{sum-within}
use Rattle.currency.proofs.Given.{passed}
use Rattle.currency.proofs.Adding.{one_more, exchanged, exchanged-faultless}

-- the margin of a record that is given
pub margin-is : (serial account initial : ℕ) (positions : List Position) (n : ℕ) (r : Record) → made_of serial account initial positions n ≡ Given r
    → r.margin ≡ initial + charges (take n positions)
unfolding sum_of
margin-is serial account initial positions n r e = ap (λ x. x.margin) (passed serial account initial positions n r e).is

module _ (serial account initial : ℕ) (ps qs : List Position) (n m : ℕ) (a b : List Position) where
  pub more-not-less : (p : Position) → take n ps ≡ a ++ b → take m qs ≡ a ++ (p ∷ b) → (r s : Record) → made_of serial account initial ps n ≡ Given r
      → made_of serial account initial qs m ≡ Given s → r.margin ≤ s.margin
  more-not-less p e f r s g h =
      omega (arith, margin-is serial account initial ps n r g, margin-is serial account initial qs m s h, ap charges e, ap charges f, one_more a b p)

  pub exchanged_same : (p q : Position) → take n ps ≡ a ++ (p ∷ (q ∷ b)) → take n qs ≡ a ++ (q ∷ (p ∷ b)) → (r : Record)
      → made_of serial account initial ps n ≡ Given r → made_of serial account initial qs n ≡ Given r
  unfolding sum_of
  exchanged_same p q e f r g =
      let w = passed serial account initial ps n r g in
      let sum : sum_of initial (take n qs) ≡ sum_of initial (take n ps) = ap (λ x. initial + x) (ap charges f ∙ sym (exchanged a b p q) ∙ sym (ap charges e)) in
      let faultless = ap first_fault f ∙ exchanged-faultless a b p q (sym (ap first_fault e) ∙ w.faultless) in
      sum-within serial account initial qs n w.few faultless w.start (omega (arith, w.within, sum))
      ∙ ap Given (ap (margin_record serial account) sum ∙ sym w.is)
