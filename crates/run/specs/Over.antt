-- K12: "every call answers as on the old order and leaves the old one's book, turned over."
use Rattle.table.specs.Words.{turned}
use Rattle.run.specs.declared.Ended.{Ended}
use Rattle.records.specs.Runs.{Ran}

abbrev pub over_ran : Ran → Ended
over_ran r = record { table = turned r.book; place = r.place; closing = r.closing; read = r.read; done = r.done }
