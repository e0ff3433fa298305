-- `embedded::carrying::loft_carry_out` meets its contract.
use lib.Dec.{eqb}
use lib.ListN.{length}
use borrow.Author.Tests.{eq-eqb, ne_eqb}
use Rattle.sums.proofs.Choices.{and-join, and-left-fails, and-right-fails}
use Rattle.embedded.proofs.Carries.{unfit, as-handed}
use Rattle.embedded.proofs.carrying.loft_carry_out.Goals as goal

pub returns-then-amounts-ne6 : goal.returns-then-amounts-ne6
returns-then-amounts-ne6 c =
    let a = c.args in
    let whole = unfit a.book.now _ a.answer.now (and-left-fails _ _ (ne_eqb _ _ c.if-amounts-ne6.true)) c.unfit.ensures in
    record { value = whole.0; book_after = whole.1.0; answer_after = whole.1.1 }

pub returns-then-answer-ne5 : goal.returns-then-answer-ne5
returns-then-answer-ne5 c =
    let a = c.args in
    let whole = unfit a.book.now _ a.answer.now (and-right-fails (eqb (length a.amounts.now) 6) _ (ne_eqb _ _ c.if-answer-ne5.true)) c.unfit-then-answer-ne5.ensures in
    record { value = whole.0; book_after = whole.1.0; answer_after = whole.1.1 }

pub returns : goal.returns
returns c =
    let a = c.args in
    let whole = as-handed a.book.now a.answer.now (and-join (eq-eqb _ _ c.if-amounts-ne6.false) (eq-eqb _ _ c.if-answer-ne5.false)) c.record_of.ensures (c.carry.ensures.value, (c.carry.ensures.book_after, c.carry.ensures.answer_after)) in
    record { value = whole.0; book_after = whole.1.0; answer_after = whole.1.1 }
