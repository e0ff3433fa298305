-- `closeout::close_out` meets its contract.
use borrow.Author.Tests.{not-true, not-false}
use mathlib.Core.Path.{refl, sym, ◌∙◌}
use Rattle.table.specs.Words.{turned_back}
use Rattle.book.proofs.SoundTest.{sound→}
use Rattle.closeout.proofs.Answers.{refused-sound, answer-by-refusal}
use Rattle.closeout.proofs.close_out.Goals as goal

pub returns-then-not-table_sound : goal.returns-then-not-table_sound
returns-then-not-table_sound c =
    let b = turned_back c.args.t in
    let whole = answer-by-refusal b _ _ 1 (refused-sound b _ _ (sym c.table_sound.ensures ∙ not-true _ c.if-not-table_sound.true-raw)) c.refused.ensures refl in
    record { answer = whole.0; rows = whole.1 }

pub close_out_at-requires : goal.close_out_at-requires
close_out_at-requires c = sound→ _ (sym c.table_sound.ensures ∙ not-false _ c.if-not-table_sound.false-raw)
