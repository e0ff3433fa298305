-- `embedded::asked::loft_needs` meets its contract.
use mathlib.Core.Path.{refl, sym, ap, ◌∙◌}
use borrow.Author.Tests.{not-true, not-false}
use Rattle.sums.proofs.Choices.{pick_first, pick_second}
use Rattle.table.specs.Words.{turned_back}
use Rattle.book.specs.NeedsListed.{needs_refusal, needs_room}
use Rattle.embedded.specs.Asked.{needs_refused, needs_after}
use Rattle.embedded.proofs.asked.loft_needs.Goals as goal

pub returns-then-not-held : goal.returns-then-not-held
unfolding needs_refused needs_after
returns-then-not-held c =
    let no = sym c.book_in-held.ensures.0 ∙ not-true _ c.if-not-held.true in
    record { value = pick_second _ no refl; needs_after = pick_second _ no refl }

pub returns : goal.returns
unfolding needs_refused needs_after
returns c =
    let d = c in
    let h = d in
    let room = h.args.needs.now in
    let book = not-false _ d.if-not-held.false in
    let two = sym h.book_in-held.ensures.0 ∙ book in
    let read = h.book_in-held.ensures.1 book in record { value = pick_first _ two (d.needs.ensures.value ∙ ap (λ t. needs_refusal (turned_back t) room) read); needs_after = pick_first _ two (d.needs.ensures.room_after ∙ ap (λ t. needs_room (turned_back t) room) read) }
