use Rattle.std.proofs.Common.{◌≡◌, length}
use Rattle.calls.proofs.rooms.numbers.Given as goal

abbrev pub invariant-loop-i : goal.invariant-loop-i
invariant-loop-i l = length l.line ≡ 4355
