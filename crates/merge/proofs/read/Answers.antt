use Rattle.std.proofs.Common.{ap, arith}
use Rattle.streams.specs.declared.Moved.{Moved}
use Rattle.streams.proofs.Within.{within_both}
use Rattle.merge.proofs.read.Goals as goal

pub returns : goal.returns
returns c = omega (arith, ap (λ (x : Moved). x.count) c.within.ensures, (within_both c.read_named-read.result 1048576).0, c.read_named-read.ensures.count_in_bounds)
