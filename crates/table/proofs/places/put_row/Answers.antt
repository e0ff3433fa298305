-- `table::places::put_row` meets its contract.
use mathlib.Core.Path.{refl}
use Rattle.table.proofs.places.put_row.Goals as goal

pub returns : goal.returns
returns c = record { marks_after = refl; w_after = c.put_amounts.ensures }
