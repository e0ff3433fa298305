-- `run::day_with_numbers` meets its contract: 1 and the room as it was, or as many records as there is room for.
use borrow.Author.Tests.{not-true, not-false}
use mathlib.Core.Bool.{true}
use mathlib.Core.Path.{◌≡◌, refl, sym, ap, ◌∙◌}
use Prim.Native.Nat.{◌/◌}
use native.Mathlib.Omega.{arith}
use lib.ListN.{length}
use Rattle.sums.proofs.Choices.{pick_yes}
use Rattle.book.specs.Sound.{sound_b}
use Rattle.book.proofs.SoundTest.{sound→}
use Rattle.records.specs.Runs.{run_of}
use Rattle.records.specs.LineNumbers.{room_for}
use Rattle.table.specs.Words.{turned_back}
use Rattle.run.specs.Over.{over_ran}
use Rattle.run.proofs.Turned.{closing-named}
use Rattle.records.proofs.NumbersPut.{ran-unsound, ran-sound, numbers-unsound, numbers-sound}
use Rattle.run.proofs.day_with_numbers.Goals as goal

pub returns-then-not-is_sound : goal.returns-then-not-is_sound
returns-then-not-is_sound c =
    let a = c.args in
    let e = sym c.is_sound.ensures ∙ not-true _ c.if-not-is_sound.true-raw in
    let x = c.unsound.ensures ∙ ap over_ran (ran-unsound (turned_back a.t) a.piece.now _ e) in
    record { value = x; room_after = numbers-unsound (turned_back a.t) a.piece.now a.most a.room.now e; closing_value = closing-named _ _ _ _ x }

pub run-requires : goal.run-requires
run-requires c =
    let tested : sound_b (turned_back c.args.t) ≡ true =
    sym c.is_sound.ensures ∙ not-false _ c.if-not-is_sound.false-raw
    in (sound→ _ tested, λ t. omega arith)

pub returns-then-most-fit : goal.returns-then-most-fit
returns-then-most-fit c =
    let tested : sound_b (turned_back c.args.t) ≡ true =
    sym c.is_sound.ensures ∙ not-false _ c.if-not-is_sound.false-raw
    in
    let a = c.args in
    let t = tested in
    let n : a.most ≡ room_for a.most a.room.now = omega (arith, c.if-most-fit.true) in
    let x = c.run.ensures.value ∙ ap over_ran (ap (λ m. run_of a.piece.now m (turned_back a.t) 0 0 0) n ∙ ran-sound (turned_back a.t) a.piece.now _ t) in record { value = x; room_after = c.run.ensures.room_after ∙ pick_yes true _ _ refl ∙ numbers-sound (turned_back a.t) a.piece.now a.most a.room.now _ n t; closing_value = closing-named _ _ _ _ x }

pub run-requires-2 : goal.run-requires-2
run-requires-2 c =
    let tested : sound_b (turned_back c.args.t) ≡ true =
    sym c.is_sound.ensures ∙ not-false _ c.if-not-is_sound.false-raw
    in (sound→ _ tested, λ t. omega arith)

pub returns : goal.returns
returns c =
    let tested : sound_b (turned_back c.args.t) ≡ true =
    sym c.is_sound.ensures ∙ not-false _ c.if-not-is_sound.false-raw
    in
    let a = c.args in
    let t = tested in
    let n : length a.room.now / 5 ≡ room_for a.most a.room.now = omega (arith, c.if-most-fit.false) in
    let x = c.run-2.ensures.value ∙ ap over_ran (ap (λ m. run_of a.piece.now m (turned_back a.t) 0 0 0) n ∙ ran-sound (turned_back a.t) a.piece.now _ t) in record { value = x; room_after = c.run-2.ensures.room_after ∙ pick_yes true _ _ refl ∙ numbers-sound (turned_back a.t) a.piece.now a.most a.room.now _ n t; closing_value = closing-named _ _ _ _ x }
