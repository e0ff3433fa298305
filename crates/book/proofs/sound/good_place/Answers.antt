-- `book::sound::good_place` meets its contract.
use borrow.Author.Tests.{eq-eqb, ne_eqb}
use Rattle.sums.proofs.Choices.{pick_first, pick_second}
use Rattle.book.proofs.sound.good_place.Goals as goal

pub returns-then-i-eq0 : goal.returns-then-i-eq0
returns-then-i-eq0 c = pick_first _ (eq-eqb _ _ c.if-i-eq0.true) c.is_top.ensures

pub returns-else-i-eq0 : goal.returns-else-i-eq0
returns-else-i-eq0 c = pick_second _ (ne_eqb _ _ c.if-i-eq0.false) c.good_sort.ensures
