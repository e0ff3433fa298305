-- `dayfile::records::good_amount` meets its contract.
use Rattle.dayfile.proofs.Judging.{amount-by-bit}
use Rattle.dayfile.proofs.faults.good_amount.Goals as goal

pub returns : goal.returns
returns c = amount-by-bit c.args.bit c.args.x c.requires
