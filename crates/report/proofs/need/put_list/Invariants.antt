use Rattle.std.proofs.Common.{ℕ, ◌*◌, ◌≤◌, get_or}
use Rattle.text.specs.Inner.{Puts}
use Rattle.report.specs.Reports.{need_lines}
use Rattle.report.proofs.need.put_list.Given as goal

abbrev pub invariant-loop-i : goal.invariant-loop-i
invariant-loop-i l = Puts l.fn.room 0 (need_lines (λ (j : ℕ). get_or l.numbers j 0) (λ (j : ℕ). get_or l.needs j 0) l.i) l.room l.at × (l.at ≤ 42 * l.i)
