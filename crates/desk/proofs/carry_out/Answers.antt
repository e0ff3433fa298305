-- `desk::carry_out` meets its contract.
use borrow.Author.Tests.{not-true, not-false}
use mathlib.Core.Path.{sym, ap, ◌∙◌}
use Rattle.book.proofs.SoundTest.{sound→}
use Rattle.desk.specs.Over.{over_done}
use Rattle.desk.proofs.Doing.{unsound-step}
use Rattle.desk.proofs.Numbers.{done-named}
use Rattle.desk.proofs.carry_out.Goals as goal

pub returns-then-not-is_sound : goal.returns-then-not-is_sound
returns-then-not-is_sound c =
    let whole = done-named _ _ _ (c.stays.ensures ∙ ap over_done (unsound-step _ _ (sym c.is_sound.ensures ∙ not-true _ c.if-not-is_sound.true-raw))) in
    record { value = whole.0; outcome_value = whole.1.0; outcome_value_2 = whole.1.1 }

pub step_at-requires : goal.step_at-requires
step_at-requires c = sound→ _ (sym c.is_sound.ensures ∙ not-false _ c.if-not-is_sound.false-raw)

pub returns : goal.returns
returns c =
    let whole = done-named _ _ _ c.step_at.ensures in
    record { value = whole.0; outcome_value = whole.1.0; outcome_value_2 = whole.1.1 }
