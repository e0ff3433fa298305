-- `passing::limits::free_of` meets its contract.
use Rattle.passing.proofs.limits.free_of.Goals as goal

pub returns : goal.returns
returns c = rw (c.blocked_of.ensures, c.need_by.ensures, c.account_of-a.ensures)
