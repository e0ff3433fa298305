-- K5's line of the table, 17, and the lines on either side of it: it is given only where its test holds.
use mathlib.Core.Bool.{Bool, true, false, not}
use mathlib.Core.List.{List, [], ◌∷◌, ◌++◌}
use mathlib.Core.Path.{◌≡◌, refl, sym, ap, ◌∙◌}
use Prim.Native.Nat.{◌<◌}
use native.Mathlib.Omega.{arith}
use lib.Dec.{eqb}
use borrow.Author.Tests.{ltb-true}
use Rattle.sums.specs.Table.{Line, ◌when◌, first}
use Rattle.sums.proofs.Choices.{test-clash, and_left}
use Rattle.sums.proofs.Tables.{first-here, first-beyond, first_passes, first-names, first-but}
use Rattle.rows.specs.declared.Book.{Book}
use Rattle.rows.specs.View.{blocked}
use Rattle.rows.specs.Rows.{mode_at, view, has_live_client, is_live}
use Rattle.book.specs.Sound.{sound_b}
use Rattle.dayfile.specs.declared.Record.{Record}
use Rattle.dayfile.specs.Records.{faults}
use Rattle.rules.specs.Refusals.{named_row, wrong_sort, no_number_left, past_ceiling, too_much, held_by_mode, left_below, takes_blocked, need_passes, new_margin, loses_cover, not_retirable, refusal_of}

module _ (b : Book) (r : Record) where
  -- the lines ahead of 17
  abbrev pub ahead : List Line
  ahead =
      (1 when not (sound_b b))
      ∷ (3 when not (eqb r.serial b.serial))
      ∷ (faults r
      ++ ((7 when not (is_live b r.account))
      ∷ (8 when wrong_sort (named_row b r) r)
      ∷ (9 when no_number_left b.count b.next r)
      ∷ (10 when past_ceiling (named_row b r) r)
      ∷ (11 when too_much (named_row b r) r)
      ∷ []))

  -- and those behind it
  abbrev behind : List Line
  behind =
      (12 when takes_blocked (left_below (named_row b r) (blocked (view b) r.account) r) r)
      ∷ (13 when loses_cover (named_row b r) (need_passes (view (new_margin b r))) r)
      ∷ (14 when not_retirable (named_row b r) (has_live_client b r.account) r)
      ∷ []

  -- the table, with any test in the place of 17's
  abbrev pub with_held : Bool → List Line
  with_held t = ahead ++ ((17 when t) ∷ behind)

  pub held-by-17 : refusal_of b r ≡ 17 → held_by_mode (mode_at b r.account) r ≡ true
  unfolding refusal_of
  held-by-17 =
      first-names 17 ahead behind (omega arith, (omega arith, (omega arith, (omega arith, (omega arith, (omega arith, (omega arith, (omega arith, (omega arith, (omega arith, tt)))))))))) refl refl
      (held_by_mode (mode_at b r.account) r)

  pub sound-at-17 : refusal_of b r ≡ 17 → sound_b b ≡ true
  unfolding refusal_of
  sound-at-17 e = by (sound_b b) refl
    where
      by : (t : Bool) → sound_b b ≡ t → sound_b b ≡ true
      by true q = q
      by false q = let one : refusal_of b r ≡ 1 = first-here 1 (not (sound_b b)) _ (ap not q) in absurd (omega (arith, e, one))

  -- the lines ahead of 7, and 7
  abbrev early : List Line
  early = (1 when not (sound_b b)) ∷ (3 when not (eqb r.serial b.serial)) ∷ faults r

  abbrev seven : Line
  seven = 7 when not (is_live b r.account)

  -- its account was given: the record passed 7
  pub given-at-17 : refusal_of b r ≡ 17 → r.account < b.count
  unfolding refusal_of
  given-at-17 e = by (is_live b r.account) refl
    where
      stops : is_live b r.account ≡ false → first (early ++ (seven ∷ [])) ≡ 17
      stops q =
          first-beyond early (seven ∷ []) _ (omega arith, (omega arith, (omega arith, (omega arith, (omega arith, tt)))))
          (λ z. first-here 7 (not (is_live b r.account)) [] (ap not q) ∙ sym (first-here 7 (not (is_live b r.account)) _ (ap not q))) ∙ e

      by : (t : Bool) → is_live b r.account ≡ t → r.account < b.count
      by true q = ltb-true _ _ (and_left _ _ q)
      by false q = test-clash (first_passes (λ n. not (eqb n 17)) (early ++ (seven ∷ [])) refl) (ap (λ n. not (eqb n 17)) (stops q))

  -- whether the account is held makes no difference where neither answer is 17
  pub held-or-not : (s t : Bool) → (first (with_held s) ≡ 17 → ⊥) → (first (with_held t) ≡ 17 → ⊥) → first (with_held s) ≡ first (with_held t)
  held-or-not =
      first-but 17 ahead behind (omega arith, (omega arith, (omega arith, (omega arith, (omega arith, (omega arith, (omega arith, (omega arith, (omega arith, (omega arith, tt))))))))))
