-- `dayfile::records::good_set` meets its contract.
use Rattle.dayfile.proofs.Judging.{margin-by-bit}
use Rattle.dayfile.proofs.faults.good_set.Goals as goal

pub returns : goal.returns
returns c = margin-by-bit c.args.bit c.args.x c.requires
