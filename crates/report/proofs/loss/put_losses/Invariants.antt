use Rattle.std.proofs.Common.{◌*◌, ◌≤◌}
use Rattle.text.specs.Inner.{Puts}
use Rattle.report.specs.Reports.{loss_lines}
use Rattle.report.proofs.loss.put_losses.Given as goal

abbrev pub invariant-loop-i : goal.invariant-loop-i
invariant-loop-i l = Puts l.fn.room 0 (loss_lines l.numbers l.losses l.amounts l.i) l.room l.at × (l.at ≤ 126 * l.i)
