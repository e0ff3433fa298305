use Rattle.std.proofs.Common.{arith}
use native.Mathlib.Numerals.{add-one}
use Rattle.text.proofs.Puts.{puts_none, and_then}
use Rattle.report.specs.Reports.{loss_line, lines_of}
use Rattle.report.proofs.loss.put_losses.Goals as goal

pub loop-i-init : goal.loop-i-init
unfolding lines_of
loop-i-init c = (puts_none _ _ (omega arith) (omega arith), omega arith)

pub loop-i-preserved : goal.loop-i-preserved
unfolding lines_of loss_line
loop-i-preserved c = (rw (add-one c.loop-i.i) (and_then _ _ c.loop-i.invariant.0 (rw c.number_at-number.ensures at c.put_six-at.ensures.puts)), omega (arith, c.put_six-at.ensures.upper_bound, c.loop-i.invariant.1))
