-- What holds of a record that no refusal meets.
use mathlib.Core.Bool.{true, false, not}
use mathlib.Core.List.{◌++◌}
use mathlib.Core.Path.{◌≡◌, sym, ◌∙◌}
use Prim.Native.Nat.{◌<◌}
use native.Mathlib.Omega.{arith}
use lib.Dec.{ltb, eqb}
use borrow.Author.Tests.{ltb-true, eqb-true, not-false}
use Rattle.sums.specs.Table.{first}
use Rattle.sums.proofs.Choices.{and_split}
use Rattle.sums.proofs.Tables.{first-fails, first-none, first-clear}
use Rattle.rows.specs.declared.Book.{Book}
use Rattle.rows.specs.View.{blocked}
use Rattle.rows.specs.Rows.{mode_at, view, has_live_client, is_live}
use Rattle.book.specs.Sound.{sound_b}
use Rattle.book.specs.Facts.{Sound}
use Rattle.book.proofs.SoundTest.{sound→}
use Rattle.dayfile.specs.declared.Record.{Record}
use Rattle.dayfile.specs.Records.{faults, fault_of}
use Rattle.rules.specs.Refusals.{named_row, wrong_sort, no_number_left, past_ceiling, too_much, held_by_mode, left_below, takes_blocked, loses_cover, not_retirable, need_passes, new_margin, beside_of, refusal_of}
use Rattle.dayfile.proofs.Good.{Good, no-fault-good, three-numbered}
use Rattle.rules.proofs.WhatIsBeside.{from7}

pub record Passes (b : Book) (r : Record) : Type 0 where
  pub sound : Sound b
  pub serial : r.serial ≡ b.serial
  pub good : Good r
  pub account : r.account < b.count
  pub live : (named_row b r).live ≡ true
  pub sort : wrong_sort (named_row b r) r ≡ false
  pub number : no_number_left b.count b.next r ≡ false
  pub capped : past_ceiling (named_row b r) r ≡ false
  pub enough : too_much (named_row b r) r ≡ false
  pub not_held : held_by_mode (mode_at b r.account) r ≡ false
  pub not_blocked : takes_blocked (left_below (named_row b r) (blocked (view b) r.account) r) r ≡ false
  pub covered : loses_cover (named_row b r) (need_passes (view (new_margin b r))) r ≡ false
  pub retirable : not_retirable (named_row b r) (has_live_client b r.account) r ≡ false

pub passes-all : (b : Book) (r : Record) → refusal_of b r ≡ 0 → Passes b r
unfolding refusal_of fault_of
passes-all b r e =
    let f₁ = first-fails 1 (not (sound_b b)) _ (omega arith) e in
    let f₃ = first-fails 3 (not (eqb r.serial b.serial)) (faults r ++ from7 (named_row b r) b.count b.next (beside_of b r) r) (omega arith) f₁.1 in
    let none : first (faults r) ≡ 0 = first-clear (faults r) _ f₃.1 in
    let f₇ = first-fails 7 (not (is_live b r.account)) _ (omega arith) (sym (first-none (faults r) (from7 (named_row b r) b.count b.next (beside_of b r) r) (three-numbered r) none) ∙ f₃.1) in
    let f₈ = first-fails 8 (wrong_sort (named_row b r) r) _ (omega arith) f₇.1 in
    let f₉ = first-fails 9 (no_number_left b.count b.next r) _ (omega arith) f₈.1 in
    let f₁₀ = first-fails 10 (past_ceiling (named_row b r) r) _ (omega arith) f₉.1 in
    let f₁₁ = first-fails 11 (too_much (named_row b r) r) _ (omega arith) f₁₀.1 in
    let f₁₇ = first-fails 17 (held_by_mode (mode_at b r.account) r) _ (omega arith) f₁₁.1 in
    let f₁₂ = first-fails 12 (takes_blocked (left_below (named_row b r) (blocked (view b) r.account) r) r) _ (omega arith) f₁₇.1 in
    let f₁₃ = first-fails 13 (loses_cover (named_row b r) (need_passes (view (new_margin b r))) r) _ (omega arith) f₁₂.1 in
    let f₁₄ = first-fails 14 (not_retirable (named_row b r) (has_live_client b r.account) r) _ (omega arith) f₁₃.1 in
    let there = and_split (ltb r.account b.count) (named_row b r).live (not-false _ f₇.0) in
    record {
      sound = sound→ b (not-false _ f₁.0);
      serial = eqb-true _ _ (not-false _ f₃.0);
      good = no-fault-good r none;
      account = ltb-true _ _ there.0;
      live = there.1;
      sort = f₈.0;
      number = f₉.0;
      capped = f₁₀.0;
      enough = f₁₁.0;
      not_held = f₁₇.0;
      not_blocked = f₁₂.0;
      covered = f₁₃.0;
      retirable = f₁₄.0;
    }
