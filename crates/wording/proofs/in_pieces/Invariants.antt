use Rattle.std.proofs.Common.{◌≡◌, length}
use Rattle.wording.proofs.Sofar.{Sofar}
use Rattle.wording.proofs.in_pieces.Given as goal

abbrev pub invariant-loop-turns : goal.invariant-loop-turns
invariant-loop-turns l = Sofar l.spelling l.printing l.first l.space l.rest l.running l.lines l.printed l.ended l.turns × (length l.room ≡ 32768)
