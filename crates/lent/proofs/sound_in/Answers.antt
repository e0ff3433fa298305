-- `lent::sound_in` meets its contract.
use mathlib.Core.Path.{sym, ap, ◌∙◌}
use borrow.Author.Tests.{not-true, not-false}
use Rattle.table.specs.Words.{turned_back}
use Rattle.book.specs.Sound.{sound_b}
use Rattle.lent.proofs.Lent.{not-two, two-sound}
use Rattle.lent.proofs.sound_in.Goals as goal

pub returns-then-not-held : goal.returns-then-not-held
returns-then-not-held c =
    let h = c in
    sym (not-two h.args.bytes.now (sym h.book_in-held.ensures.0 ∙ not-true _ c.if-not-held.true))

pub returns : goal.returns
returns c =
    let h = c in
    let e = not-false _ c.if-not-held.false in
    c.is_sound.ensures
    ∙ ap (λ t. sound_b (turned_back t)) (h.book_in-held.ensures.1 e)
    ∙ sym (two-sound h.args.bytes.now (sym h.book_in-held.ensures.0 ∙ e))
