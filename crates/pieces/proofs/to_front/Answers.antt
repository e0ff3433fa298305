use Rattle.std.proofs.Common.{arith}
use Rattle.pieces.proofs.Moving.{one-moved}
use Rattle.pieces.proofs.to_front.Goals as goal

pub loop-i-preserved : goal.loop-i-preserved
loop-i-preserved c = one-moved _ _ _ _ (omega arith) c.loop-i.invariant
