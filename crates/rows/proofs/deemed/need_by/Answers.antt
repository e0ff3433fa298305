-- `rows::deemed::need_by` meets its contract.
use mathlib.Core.Path.{sym}
use borrow.Author.Tests.{le-leb, lt-leb}
use Rattle.sums.proofs.Choices.{pick_yes, pick_no}
use Rattle.rows.proofs.deemed.need_by.Goals as goal

pub returns-then-a-le1 : goal.returns-then-a-le1
returns-then-a-le1 c = sym (pick_yes _ _ _ (le-leb _ _ c.if-a-le1.true))

pub returns-else-a-le1 : goal.returns-else-a-le1
returns-else-a-le1 c = sym (pick_no _ _ _ (lt-leb _ _ c.if-a-le1.false))
