-- `book::sound::good_number` meets its contract.
use mathlib.Core.Bool.{◌&&◌}
use mathlib.Core.Path.{refl, ap}
use lib.Dec.{ltb}
use borrow.Author.Tests.{lt-ltb, le-ltb}
use Rattle.sums.proofs.Choices.{pick_first, pick_second}
use Rattle.book.proofs.sound.good_number.Goals as goal

pub returns-then-i-count : goal.returns-then-i-count
returns-then-i-count c = let a = c.args in pick_first _ (lt-ltb _ _ c.if-i-count.true) (ap (λ x. x && ltb a.n a.next) c.number_rises.ensures)

pub returns-else-i-count : goal.returns-else-i-count
returns-else-i-count c = pick_second _ (le-ltb _ _ c.if-i-count.false) refl
