-- `rows::needs::counted_of` meets its contract.
use Rattle.rows.specs.Rows.{counted}
use Rattle.rows.proofs.needs.counted_of.Goals as goal

pub returns-in-Old : goal.returns-in-Old
unfolding counted
returns-in-Old c = rw c.in-Old.is

pub returns-in-New : goal.returns-in-New
unfolding counted
returns-in-New c = rw c.in-New.is
