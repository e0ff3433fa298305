use Rattle.std.proofs.Common.{false, ap}
use Rattle.table.specs.declared.Table.{Table}
use Rattle.records.specs.declared.Closing.TheVariants.{Unsound}
use Rattle.feed.proofs.unsound.Goals as goal

pub returns : goal.returns
returns c = ap (λ (x : Table). record { table = x; closing = Unsound; read = 0; done = 0; printed = 0; failed = false }) c.same-table.ensures
