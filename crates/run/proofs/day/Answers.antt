-- `run::day` meets its contract.
use borrow.Author.Tests.{not-true, not-false}
use mathlib.Core.Bool.{true, false≢true}
use mathlib.Core.Path.{◌≡◌, sym, ap, ◌∙◌}
use Rattle.book.specs.Sound.{sound_b}
use Rattle.book.proofs.SoundTest.{sound→}
use Rattle.table.specs.Words.{turned_back}
use Rattle.run.specs.Over.{over_ran}
use Rattle.run.proofs.Turned.{closing-named}
use Rattle.records.proofs.NumbersPut.{ran-unsound, ran-sound}
use Rattle.run.proofs.day.Goals as goal

pub returns-then-not-is_sound : goal.returns-then-not-is_sound
returns-then-not-is_sound c =
    let a = c.args in
    let e = c.unsound.ensures ∙ ap over_ran (ran-unsound (turned_back a.t) a.piece.now a.most (sym c.is_sound.ensures ∙ not-true _ c.if-not-is_sound.true-raw)) in
    record { value = e; closing_value = closing-named _ _ _ _ e }

pub run-requires : goal.run-requires
run-requires c =
    let tested : sound_b (turned_back c.args.t) ≡ true =
    sym c.is_sound.ensures ∙ not-false _ c.if-not-is_sound.false-raw
    in (sound→ _ tested, λ t. absurd (false≢true t))

pub returns : goal.returns
returns c =
    let tested : sound_b (turned_back c.args.t) ≡ true =
    sym c.is_sound.ensures ∙ not-false _ c.if-not-is_sound.false-raw
    in
    let a = c.args in
    let e = c.run.ensures.value ∙ ap over_ran (ran-sound (turned_back a.t) a.piece.now a.most tested) in
    record { value = e; closing_value = closing-named _ _ _ _ e }
