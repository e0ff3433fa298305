-- The lists of positions, and the record made of them.
use mathlib.Core.Bool.{Bool, true, false}
use mathlib.Core.List.{List}
use mathlib.Core.Path.{◌≡◌, refl, sym, ap, ◌∙◌}
use Prim.Native.Nat.{ℕ, ◌≤◌}
use native.Mathlib.Omega.{arith}
use Rattle.std.specs.Prelude.{◌↔◌, IsTrue, EachIndex}
use borrow.Author.Tests.{eq-eqb, eqb-true, le-leb, leb-true}
use lib.Count.{ones}
use lib.Dec.{eqb, leb}
use lib.IntN.{ℤ}
use lib.ListN.{length, get_or}
use Rattle.sums.specs.Choice.{pick}
use Rattle.sums.specs.Listed.{list_to}
use Rattle.sums.specs.Sum.{all}
use Rattle.sums.proofs.Choices.{and_split}
use Rattle.sums.proofs.Sums.{all-at, all_from}
use Rattle.dayfile.specs.declared.Record.{Record}
use Rattle.dayfile.specs.Reading.{size_of}
use Rattle.dayfile.specs.Records.{fault_of}
use Rattle.dayfile.specs.Written.{written_of, room_after}
use Rattle.dayfile.proofs.Answers.{write_done}
use Rattle.dayfile.proofs.Lengths.{length-written}
use Rattle.currency.specs.declared.Position.{Position}
use Rattle.currency.specs.declared.Made.TheVariants.{Given}
use Rattle.currency.specs.Margins.{made_of}
use Rattle.currency.proofs.Given.{passed, margin-good}
use Rattle.exposure.specs.Joined.{joined_of}
use Rattle.exposure.specs.Lists.{figure_at}
use Rattle.exposure.proofs.JoinGiven.{joined}
use Rattle.embedded.specs.Margins.{position_at, are_positions, made_in}
use Rattle.lent.proofs.Filled.{filled}

-- that each side is at most 3, as the definition tests it
pub all_known : (sides : List ℕ) (t : Bool) → (IsTrue t ↔ EachIndex sides (λ k. get_or sides k 0 ≤ 3)) → t ≡ all (length sides) (λ i. leb (get_or sides i 0) 3)
all_known sides true h = sym (all_from (length sides) (λ i. leb (get_or sides i 0) 3) (λ i l. le-leb _ _ (h.0 refl i l)))
all_known sides false h = by (all (length sides) (λ i. leb (get_or sides i 0) 3)) refl
  where
    by : (s : Bool) → all (length sides) (λ i. leb (get_or sides i 0) 3) ≡ s → false ≡ s
    by true e = h.1 (λ i l. leb-true _ _ (all-at (length sides) (λ j. leb (get_or sides j 0) 3) e i l))
    by false e = refl

module _ (products sides notionals : List ℕ) where
  pub right : {t : Bool} → length sides ≡ length products → length notionals ≡ length products → length products ≤ 64
      → t ≡ all (length sides) (λ i. leb (get_or sides i 0) 3) → t ≡ are_positions products sides notionals
  right p q l e = rw (eq-eqb _ _ p, eq-eqb _ _ q, le-leb _ _ l) e

  pub lengths : are_positions products sides notionals ≡ true → (length sides ≡ length products) × (length notionals ≡ length products)
  lengths e =
      let a = and_split (eqb (length sides) (length products)) _ e in
      let b = and_split (eqb (length notionals) (length products)) _ a.1 in
      (eqb-true _ _ a.0, eqb-true _ _ b.0)

  module _ (serial account initial : ℕ) (figures : List ℤ) (r : Record) (e : made_in serial account initial products sides notionals figures ≡ Given r) where
    -- the record made is good, and names the margin
    good : (fault_of r ≡ 0) × (r.named ≡ 32)
    unfolding made_in pick
    good = by (eqb (length figures) 0) e
      where
        places : List Position
        places = list_to (position_at products sides notionals) 64

        by : (t : Bool)
            → pick t (made_of serial account initial places (length products))
            (joined_of serial account initial places (length products) (figure_at figures 0) (figure_at figures 1) (figure_at figures 2) (figure_at figures 3)) ≡ Given r
            → (fault_of r ≡ 0) × (r.named ≡ 32)
        by true q =
            let p = passed serial account initial places (length products) r q in
            (ap fault_of p.is ∙ margin-good serial account _ p.within, ap (λ x. x.named) p.is)
        by false q =
            let p = joined serial account initial places (length products) _ _ _ _ r q in
            (ap fault_of p.is ∙ margin-good serial account _ p.within, ap (λ x. x.named) p.is)

    -- so it is written into a room that is as long
    pub put : (room : List ℕ) → length room ≡ 14 → room_after r room ≡ written_of r
    unfolding ones
    put room h =
        let long : length (written_of r) ≡ 14 = length-written r good.0 ∙ ap size_of good.1 in
        sym (write_done r room good.0 (length (written_of r)) (written_of r) refl (omega arith) (sym (filled (written_of r) room (omega arith)))).1
