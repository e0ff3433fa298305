-- `passing::least_of` meets its contract.
use mathlib.Core.Path.{refl}
use borrow.Author.Tests.{le-leb, lt-leb}
use Rattle.sums.proofs.Choices.{pick_first, pick_second}
use Rattle.passing.proofs.least_of.Goals as goal

pub returns-then-code-ge10 : goal.returns-then-code-ge10
returns-then-code-ge10 c = pick_first 1 (le-leb 10 _ c.if-code-ge10.true) refl

pub returns-else-code-ge10 : goal.returns-else-code-ge10
returns-else-code-ge10 c = pick_second 0 (lt-leb 10 _ c.if-code-ge10.false) refl
