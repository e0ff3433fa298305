-- `steps::modes_of` meets its contract.
use Rattle.std.proofs.Common.{sym}
use Rattle.sums.proofs.Choices.{pick_yes, pick_no}
use Rattle.steps.proofs.modes_of.Goals as goal

pub returns-then-at : goal.returns-then-at
returns-then-at c = sym (pick_yes _ _ _ c.if-at.true)

pub returns-else-at : goal.returns-else-at
returns-else-at c = sym (pick_no _ _ _ c.if-at.false)
