use Rattle.std.proofs.Common.{◌≡◌, length}
use Rattle.calls.proofs.taken.list.Given as goal

abbrev pub invariant-loop-i : goal.invariant-loop-i
invariant-loop-i g l = length l.list ≡ 4096
