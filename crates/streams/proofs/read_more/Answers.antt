use Rattle.streams.proofs.Taken.{none-where-failed}
use Rattle.streams.proofs.read_more.Goals as goal

pub returns-clause-count_in_bounds : goal.returns-clause-count_in_bounds
returns-clause-count_in_bounds g c = (none-where-failed _ _ _ c.meant.ensures).0

pub returns-clause-count_value : goal.returns-clause-count_value
returns-clause-count_value g c = (none-where-failed _ _ _ c.meant.ensures).1
