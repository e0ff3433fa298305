-- `desk::carry_out_next` meets its contract: an unsound book, no bytes, too few, or the record that stands there.
use borrow.Author.Tests.{not-true, not-false}
use mathlib.Core.Bool.{true}
use mathlib.Core.Path.{◌≡◌, sym, ap, ◌∙◌}
use Rattle.table.specs.Words.{turned_back}
use Rattle.book.specs.Sound.{sound_b}
use Rattle.book.proofs.SoundTest.{sound→}
use Rattle.desk.specs.declared.Carried.{Carried}
use Rattle.desk.specs.declared.CarriedNext.{CarriedNext}
use Rattle.desk.specs.Over.{over_next}
use Rattle.desk.proofs.Doing.{unsound-next, sound-next}
use Rattle.desk.proofs.Numbers.{next-named}
use Prim.Native.Nat.{ℕ}
use Rattle.desk.proofs.carry_out_next.Goals as goal

-- the same answer and table, with a place
abbrev placed : ℕ → Carried → CarriedNext
placed place d = record { answer = d.answer; table = d.table; place = place }

pub returns-then-not-is_sound : goal.returns-then-not-is_sound
returns-then-not-is_sound c =
    let a = c.args in
    let whole = next-named _ _ _ _
    (c.at.ensures ∙ ap (placed a.place) c.stays.ensures
    ∙ ap over_next (unsound-next _ a.piece.now a.place (sym c.is_sound.ensures ∙ not-true _ c.if-not-is_sound.true-raw))) in
    record { value = whole.0; outcome_value = whole.1.0; outcome_value_2 = whole.1.1 }

pub step_at-requires : goal.step_at-requires
step_at-requires c =
    let tested : sound_b (turned_back c.args.t) ≡ true =
    sym c.is_sound.ensures ∙ not-false _ c.if-not-is_sound.false-raw
    in sound→ _ tested

pub returns-in-End : goal.returns-in-End
returns-in-End c =
    let tested : sound_b (turned_back c.args.t) ≡ true =
    sym c.is_sound.ensures ∙ not-false _ c.if-not-is_sound.false-raw
    in
    let f = c in
    let a = f.args in
    let whole = next-named _ _ _ _
    (c.at-in-End.ensures ∙ ap (placed a.place) c.stays-in-End.ensures
    ∙ ap over_next (sound-next _ a.piece.now a.place _ tested (sym f.found_at-found.ensures.value ∙ c.in-End.is))) in
    record { value = whole.0; outcome_value = whole.1.0; outcome_value_2 = whole.1.1 }

pub returns-in-Cut : goal.returns-in-Cut
returns-in-Cut c =
    let tested : sound_b (turned_back c.args.t) ≡ true =
    sym c.is_sound.ensures ∙ not-false _ c.if-not-is_sound.false-raw
    in
    let f = c in
    let a = f.args in
    let whole = next-named _ _ _ _
    (c.at-in-Cut.ensures ∙ ap (placed a.place) c.stays-in-Cut.ensures
    ∙ ap over_next (sound-next _ a.piece.now a.place _ tested (sym f.found_at-found.ensures.value ∙ c.in-Cut.is))) in
    record { value = whole.0; outcome_value = whole.1.0; outcome_value_2 = whole.1.1 }

pub returns-in-Whole : goal.returns-in-Whole
returns-in-Whole c =
    let tested : sound_b (turned_back c.args.t) ≡ true =
    sym c.is_sound.ensures ∙ not-false _ c.if-not-is_sound.false-raw
    in
    let f = c in
    let a = f.args in
    let whole = next-named _ _ _ _
    (c.at-in-Whole.ensures ∙ ap (placed _) c.step_at.ensures
    ∙ ap over_next (sound-next _ a.piece.now a.place _ tested (sym f.found_at-found.ensures.value ∙ c.in-Whole.is))) in
    record { value = whole.0; outcome_value = whole.1.0; outcome_value_2 = whole.1.1 }
