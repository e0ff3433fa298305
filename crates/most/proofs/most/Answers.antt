-- `most::most` meets its contract: 1, or what is found at a sound book.
use mathlib.Core.Path.{sym, ◌∙◌}
use borrow.Author.Tests.{not-true, not-false}
use Rattle.table.specs.Words.{turned_back}
use Rattle.book.specs.Facts.{Sound}
use Rattle.book.proofs.SoundTest.{sound→}
use Rattle.passing.proofs.Exactly.{unsound}
use Rattle.most.proofs.most.Goals as goal

pub returns-then-not-is_sound : goal.returns-then-not-is_sound
returns-then-not-is_sound c =
    let a = c.args in
    c.refused.ensures ∙ sym (unsound (turned_back a.t) a.«record» (sym c.is_sound.ensures ∙ not-true _ c.if-not-is_sound.true-raw))

pub most_in-requires : goal.most_in-requires
most_in-requires c =
    let sound : Sound (turned_back c.args.t) =
    sound→ (turned_back c.args.t) (sym c.is_sound.ensures ∙ not-false _ c.if-not-is_sound.false-raw)
    in
    let e = c in
    let t = e.args.t in
    record { serial = t.serial; next = t.next; sound = sound }

pub returns : goal.returns
returns c =
    let sound : Sound (turned_back c.args.t) =
    sound→ (turned_back c.args.t) (sym c.is_sound.ensures ∙ not-false _ c.if-not-is_sound.false-raw)
    in
    let e = c in
    let t = e.args.t in
    c.most_in.ensures t.serial t.next sound
