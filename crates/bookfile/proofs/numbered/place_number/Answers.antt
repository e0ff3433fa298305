-- `bookfile::numbered::place_number` meets its contract.
use mathlib.Core.Path.{refl}
use borrow.Author.Tests.{lt-ltb, le-ltb}
use Rattle.sums.proofs.Choices.{pick_first, pick_second}
use Rattle.bookfile.proofs.numbered.place_number.Goals as goal

pub returns-then-i-count : goal.returns-then-i-count
returns-then-i-count c = pick_first _ (lt-ltb _ _ c.if-i-count.true) refl

pub returns-else-i-count : goal.returns-else-i-count
returns-else-i-count c = pick_second _ (le-ltb _ _ c.if-i-count.false) refl
