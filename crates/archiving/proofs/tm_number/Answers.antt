-- `archiving::tm_number` meets its contract.
use mathlib.Core.Path.{refl}
use borrow.Author.Tests.{eq-eqb, ne_eqb}
use Rattle.sums.proofs.Choices.{pick_first, pick_second}
use Rattle.archiving.proofs.tm_number.Goals as goal

pub returns-then-sort-eq2 : goal.returns-then-sort-eq2
returns-then-sort-eq2 c = pick_first _ (eq-eqb _ 2 c.if-sort-eq2.true) refl

pub returns : goal.returns
returns c = pick_second _ (ne_eqb _ 2 c.if-sort-eq2.false) refl
