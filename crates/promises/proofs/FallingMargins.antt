-- K6, margins that fall, and K8 on it: document 02's sentences as theorems.
use mathlib.Core.Bool.{true, false, not, ◌&&◌}
use mathlib.Core.List.{[], ◌∷◌}
use mathlib.Core.Path.{◌≡◌, ap, ◌∙◌}
use Prim.Native.Nat.{◌≤◌}
use native.Mathlib.Omega.{arith}
use lib.Dec.{ltb, eqb}
use borrow.Author.Tests.{ltb-true, not-false}
use Rattle.sums.specs.Choice.{pick}
use Rattle.sums.specs.Table.{◌when◌, first}
use Rattle.sums.proofs.Choices.{and_split}
use Rattle.sums.proofs.Tables.{first_on, first-beyond}
use Rattle.rows.specs.declared.Book.{Book}
use Rattle.rows.specs.Rows.{place_of, view, is_live, has_live_client}
use Rattle.book.specs.Sound.{sound_b}
use Rattle.book.specs.Asked.{shortfall}
use Rattle.book.proofs.SoundTest.{sound→}
use Rattle.dayfile.specs.declared.Record.{Record}
use Rattle.dayfile.specs.Records.{faults}
use Rattle.dayfile.proofs.Good.{three-numbered}
use Rattle.rules.specs.Refusals.{need_passes, new_margin, loses_cover, not_retirable, refusal_of}
use Rattle.rules.proofs.Falls.{stays-covered, same-as-any, rises-at-13}
use Rattle.promises.specs.Before.{as_before}
use Rattle.rules.specs.Numbered.{placed, row_named, verdict_of}

-- A live account's margin not above the present one: at a sound book with no shortfall the CM's need doesn't pass its collateral after it, ..
pub a-margin-that-doesn't-rise-stays-covered : (b : Book) (r : Record) → sound_b b ≡ true → shortfall (view b) ≡ 0 → is_live b (place_of b r.account) ≡ true → r.margin ≤ (row_named b r).margin
    → need_passes (view (new_margin b (placed b r))) ≡ false
a-margin-that-doesn't-rise-stays-covered b r s none live h =
    let given = and_split (ltb (place_of b r.account) b.count) (row_named b r).live live in
    stays-covered b (sound→ b s) (omega arith) (placed b r) (ltb-true _ _ given.0) h

-- .. so that 13's line may ask for a rising margin: from K8 on this asks that the shortfall is 0 before the record; then every record gets the refusal that the table
-- before K6 gives, where 13 is asked of every new margin.
pub no-answer-moved : (b : Book) (r : Record) → shortfall (view b) ≡ 0 → verdict_of b r ≡ first (as_before b r)
unfolding refusal_of pick
no-answer-moved b r none =
    first_on 1 _ _ _ (λ e₁. first_on 3 _ _ _ (λ e₃. first-beyond (faults (placed b r)) _ _ (three-numbered (placed b r)) (λ e₆. first_on 7 _ _ _ (λ e₇. first_on 8 _ _ _ (λ e₈.
    first_on 9 _ _ _ (λ e₉. first_on 10 _ _ _ (λ e₁₀. first_on 11 _ _ _ (λ e₁₁. first_on 17 _ _ _ (λ e₁₇. first_on 12 _ _ _ (λ e₁₂. same (not-false _ e₁) (not-false _ e₇)))))))))))
  where
    same : sound_b b ≡ true → is_live b (place_of b r.account) ≡ true
        → first ((13 when loses_cover (row_named b r) (need_passes (view (new_margin b (placed b r)))) (placed b r)) ∷ (14 when not_retirable (row_named b r) (has_live_client b (place_of b r.account)) (placed b r)) ∷ [])
        ≡ first ((13 when (eqb r.code 10 && need_passes (view (new_margin b (placed b r))))) ∷ (14 when not_retirable (row_named b r) (has_live_client b (place_of b r.account)) (placed b r)) ∷ [])
    same s live =
        let given = and_split (ltb (place_of b r.account) b.count) (row_named b r).live live in
        ap (λ t. first ((13 when t) ∷ (14 when not_retirable (row_named b r) (has_live_client b (place_of b r.account)) (placed b r)) ∷ [])) (same-as-any b (sound→ b s) (omega arith) (placed b r) (ltb-true _ _ given.0))

-- "for a sound book a margin not above the present one never meets 13": by the table before K6, where there is no shortfall, ..
pub never-meets-13 : (b : Book) (r : Record) → shortfall (view b) ≡ 0 → r.margin ≤ (row_named b r).margin → first (as_before b r) ≡ 13 → ⊥
never-meets-13 b r none h e = omega (arith, h, rises-at-13 b (placed b r) (no-answer-moved b r none ∙ e))

-- .. and by the table of today whatever the shortfall. K8, "A margin under code 10 that doesn't rise is carried out even while there is a shortfall": when it is refused,
-- exactly, and that it is carried out otherwise: PricesMove.
pub never-meets-13-under-a-shortfall : (b : Book) (r : Record) → r.margin ≤ (row_named b r).margin → verdict_of b r ≡ 13 → ⊥
never-meets-13-under-a-shortfall b r h e = omega (arith, h, rises-at-13 b (placed b r) e)
