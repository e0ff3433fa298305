-- `table::turn_back` meets its contract.
use Rattle.table.proofs.turn_back.Goals as goal

pub returns : goal.returns
returns c = rw c.rows_of.ensures
