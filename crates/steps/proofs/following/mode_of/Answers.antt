-- `steps::following::mode_of` meets its contract.
use Rattle.std.proofs.Common.{false, get_or, sym, ap}
use Rattle.sums.proofs.Choices.{pick_yes, pick_no}
use Rattle.steps.proofs.following.mode_of.Goals as goal

pub returns-then-at : goal.returns-then-at
returns-then-at c =
    let a = c.args in
    sym (ap (λ l. get_or l a.j false) (pick_yes a.at.waiting _ _ c.if-at.true))

pub returns-else-at : goal.returns-else-at
returns-else-at c =
    let a = c.args in
    sym (ap (λ l. get_or l a.j false) (pick_no a.at.waiting _ _ c.if-at.false))
