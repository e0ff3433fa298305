-- `bookfile::reading::version_of` meets its contract.
use mathlib.Core.Path.{refl}
use borrow.Author.Tests.{eq-eqb, ne_eqb}
use Rattle.sums.proofs.Choices.{pick_first, pick_second}
use Rattle.bookfile.proofs.reading.version_of.Goals as goal

pub returns-then-piece-eq-SIZE : goal.returns-then-piece-eq-SIZE
returns-then-piece-eq-SIZE c = pick_first _ (eq-eqb _ _ c.if-piece-eq-SIZE.true) refl

pub returns-else-piece-eq-SIZE : goal.returns-else-piece-eq-SIZE
returns-else-piece-eq-SIZE c = pick_second _ (ne_eqb _ _ c.if-piece-eq-SIZE.false) refl
