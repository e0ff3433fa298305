-- `embedded::asked::loft_statement` meets its contract.
use mathlib.Core.Path.{refl, sym, ap, ◌∙◌}
use borrow.Author.Tests.{not-true, not-false}
use Rattle.sums.proofs.Choices.{pick_first, pick_second}
use Rattle.table.specs.Words.{turned_back}
use Rattle.statement.specs.Statements.{statement_finding}
use Rattle.embedded.specs.Asked.{statement_refusal}
use Rattle.embedded.proofs.asked.loft_statement.Goals as goal

pub returns-then-not-held : goal.returns-then-not-held
unfolding statement_refusal
returns-then-not-held c = pick_second _ (sym c.book_in-held.ensures.0 ∙ not-true _ c.if-not-held.true) refl

pub returns : goal.returns
unfolding statement_refusal
returns c =
    let h = c in
    let a = h.args in
    let book = not-false _ c.if-not-held.false in
    pick_first _ (sym h.book_in-held.ensures.0 ∙ book)
    (ap (λ x. x.refusal) (c.check-finding.ensures ∙ ap (λ t. statement_finding (turned_back t) a.tm a.piece.now) (h.book_in-held.ensures.1 book)))
