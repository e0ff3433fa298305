-- `exposure::join::with_amount` meets its contract.
use mathlib.Core.Path.{refl}
use borrow.Author.Tests.{lt-ltb, le-ltb}
use Rattle.sums.proofs.Choices.{pick_first, pick_second}
use Rattle.exposure.proofs.join.with_amount.Goals as goal

pub returns-then-sum-gt-CEILING : goal.returns-then-sum-gt-CEILING
returns-then-sum-gt-CEILING c = pick_second _ refl (pick_first _ (lt-ltb _ _ c.if-sum-gt-CEILING.true) refl)

pub returns : goal.returns
returns c = pick_second _ refl (pick_second _ (le-ltb _ _ c.if-sum-gt-CEILING.false) refl)
