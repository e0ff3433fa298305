use Rattle.std.proofs.Common.{◌≡◌, ◌≤◌, length}
use Rattle.calls.proofs.run.Given as goal

abbrev pub invariant-loop-answered : goal.invariant-loop-answered
invariant-loop-answered l = (l.at ≤ l.end) × (l.end ≤ length l.space) × (length l.space ≡ 262144) × (l.put ≤ 196608) × (length l.room ≡ 393216)
