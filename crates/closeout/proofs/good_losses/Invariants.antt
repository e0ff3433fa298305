-- `closeout::good_losses` meets its contract. The invariant: the flag is the test of the losses passed.
use mathlib.Core.Path.{◌≡◌}
use Rattle.sums.specs.Sum.{all}
use Rattle.closeout.specs.Inner.{good_in}
use Rattle.closeout.proofs.good_losses.Given as goal

abbrev pub invariant-loop-i : goal.invariant-loop-i
invariant-loop-i l = l.good ≡ all l.i (good_in l.t.marks.live l.losses)
