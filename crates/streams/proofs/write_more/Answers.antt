use Rattle.streams.proofs.Taken.{none-where-failed}
use Rattle.streams.proofs.write_more.Goals as goal

pub returns : goal.returns
returns g c = (none-where-failed _ _ _ c.meant.ensures).0
