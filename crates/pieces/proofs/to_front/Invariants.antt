use Rattle.pieces.proofs.Moving.{Moved}
use Rattle.pieces.proofs.to_front.Given as goal

abbrev pub invariant-loop-i : goal.invariant-loop-i
invariant-loop-i l = Moved l.fn.space l.from l.i l.space
