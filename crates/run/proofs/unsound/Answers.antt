-- `run::unsound` meets its contract.
use mathlib.Core.Path.{ap}
use Rattle.table.specs.declared.Table.{Table}
use Rattle.records.specs.declared.Closing.TheVariants.{Unsound}
use Rattle.run.proofs.unsound.Goals as goal

pub returns : goal.returns
returns c = ap (λ (x : Table). record { table = x; place = 0; closing = Unsound; read = 0; done = 0 }) c.same-table.ensures
