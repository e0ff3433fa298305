-- K8, prices move: when a record of code 12 or 13, or a margin that doesn't rise, is refused, and what it does. Where a shortfall comes from: Shortfall.
use mathlib.Core.Bool.{false}
use mathlib.Core.List.{List, []}
use mathlib.Core.Path.{◌≡◌, refl, ap, ◌∙◌}
use Prim.Native.Nat.{ℕ, ◌<◌}
use native.Mathlib.Omega.{arith}
use borrow.Author.Tests.{le-ltb}
use Rattle.sums.specs.Table.{Line, first, NoneHolds}
use Rattle.sums.proofs.Choices.{pick_no}
use Rattle.sums.proofs.Tables.{first_on, none-gives-0}
use Rattle.rows.specs.declared.Row.{Row}
use Rattle.rows.specs.declared.Book.{Book}
use Rattle.rows.specs.Rows.{place_of, with_row, with_pledged, with_margin}
use Rattle.rows.specs.KeptNeeds.{settled}
use Rattle.dayfile.specs.declared.Record.{Record}
use Rattle.rules.specs.declared.Change.TheVariants.{Put}
use Rattle.rules.specs.Refusals.{is_opening, beside_of, from8, refusal_of}
use Rattle.rules.specs.Effects.{amended, moved_on}
use Rattle.rules.specs.Numbered.{placed, row_named, verdict_of}
use Rattle.rules.proofs.Amending.{by-margin, by-set-pledged, by-set-margin}
use Rattle.desk.specs.declared.Outcome.TheVariants.{CarriedOut}
use Rattle.desk.specs.Answers.{of_record}
use Rattle.desk.specs.Steps.{done_by, step_of}
use Rattle.desk.proofs.Effect.{passed-as}
use Rattle.promises.specs.InOrder.{InOrder}
use Rattle.promises.specs.PricesMove.{WhateverTheCover, sets_pledged, sets_margin, doesn't_rise, lines_before8}
use Rattle.promises.proofs.Exactly.{in_order, none-exactly}

module _ (b : Book) (r : Record) where
  -- the table past 7
  abbrev past7 : List Line
  past7 = from8 (row_named b r) b.count b.next (beside_of b (placed b r)) (placed b r)

  -- no line past 7 is about such a record
  past-7 : WhateverTheCover b r → NoneHolds past7
  past-7 (sets_pledged e) = rw e (refl, (refl, (refl, (refl, (refl, (refl, (refl, (refl, tt))))))))
  past-7 (sets_margin e) = rw e (refl, (refl, (refl, (refl, (refl, (refl, (refl, (refl, tt))))))))
  past-7 (doesn't_rise e h) = rw (e, le-ltb (row_named b r).margin r.margin h) (refl, (refl, (refl, (refl, (refl, (refl, (refl, (refl, tt))))))))

  ends : NoneHolds past7 → first past7 ≡ first []
  unfolding first
  ends none = none-gives-0 past7 none

  -- Codes 12 and 13, of which "neither can be refused for want of cover", and "A margin under code 10 that doesn't rise": the number is the first of 1 and 3 to 7 that applies,
  -- or 0. (4 never does: their codes are known.)
  pub refused-by-no-line-from-8 : WhateverTheCover b r → verdict_of b r ≡ first (lines_before8 b r)
  unfolding refusal_of
  refused-by-no-line-from-8 w =
      first_on 1 _ _ _ (λ e₁. first_on 3 _ _ _ (λ e₃. first_on 4 _ _ _ (λ e₄. first_on 5 _ _ _ (λ e₅. first_on 6 _ _ _ (λ e₆. first_on 7 _ _ _ (λ e₇. ends (past-7 w)))))))

  module _ (w : WhateverTheCover b r) where
    -- So it is refused with one of them exactly when that one's test holds and no earlier one's does, ..
    pub refused-exactly-when : (k : ℕ) → 0 < k → InOrder (verdict_of b r) k (lines_before8 b r)
    refused-exactly-when = in_order (lines_before8 b r) (refused-by-no-line-from-8 w)

    -- .. and is carried out exactly when none of these holds, however little collateral there is.
    pub otherwise-carried-out : (verdict_of b r ≡ 0 → NoneHolds (lines_before8 b r)) × (NoneHolds (lines_before8 b r) → verdict_of b r ≡ 0)
    otherwise-carried-out = none-exactly (lines_before8 b r) (refused-by-no-line-from-8 w) (omega arith, (omega arith, (omega arith, (omega arith, (omega arith, (omega arith, tt))))))

-- What such a record does when it is carried out: the row of the account named is put anew, the serial moves on, and modes are looked at and needs worked out afresh
-- (`settled`), and no more.
module _ (b : Book) (r : Record) (carried : verdict_of b r ≡ 0) where
  puts : (row : Row) → is_opening r ≡ false → amended (row_named b r) (placed b r) ≡ row
      → step_of b r ≡ record { answer = of_record r CarriedOut; book = settled (moved_on (with_row b (place_of b r.account) row)) }
  puts row o e = passed-as b r carried ∙ ap (done_by b r) (pick_no (is_opening r) _ _ o) ∙ ap (λ x. done_by b r (Put x)) e

  -- "Code 12 .. sets pledged to a new value": the row's pledged is the record's, and the rest of the row stays.
  pub code-12-sets-pledged : r.code ≡ 12
      → step_of b r ≡ record {
        answer = of_record r CarriedOut;
        book = settled (moved_on (with_row b (place_of b r.account) (with_pledged (row_named b r) r.pledged)));
      }
  code-12-sets-pledged e = puts _ (rw e) (by-set-pledged (row_named b r) (placed b r) e)

  -- "code 13 .. sets a margin": the row's margin is the record's, and the rest of the row stays, ..
  pub code-13-sets-the-margin : r.code ≡ 13
      → step_of b r ≡ record {
        answer = of_record r CarriedOut;
        book = settled (moved_on (with_row b (place_of b r.account) (with_margin (row_named b r) r.margin)));
      }
  code-13-sets-the-margin e = puts _ (rw e) (by-set-margin (row_named b r) (placed b r) e)

  -- .. as under code 10.
  pub code-10-sets-the-margin : r.code ≡ 10
      → step_of b r ≡ record {
        answer = of_record r CarriedOut;
        book = settled (moved_on (with_row b (place_of b r.account) (with_margin (row_named b r) r.margin)));
      }
  code-10-sets-the-margin e = puts _ (rw e) (by-margin (row_named b r) (placed b r) e)
