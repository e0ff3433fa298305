-- `steps::entry::leave` meets its contract.
use Rattle.steps.proofs.entry.leave.Goals as goal

pub returns : goal.returns
returns c = rw c.modes_of.ensures
