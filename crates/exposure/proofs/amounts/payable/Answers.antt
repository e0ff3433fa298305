-- `exposure::amounts::payable` meets its contract.
use mathlib.Core.Path.{sym, ap, ◌∙◌}
use lib.IntN.{pos}
use lib.Signed.{lt_z}
use mir.Facts.{to_z-of_z, Fits-nat_abs}
use Rattle.exposure.proofs.Parts.{above, not-above}
use Rattle.exposure.proofs.amounts.payable.Goals as goal

pub overflow_cast-result : goal.overflow_cast-result
overflow_cast-result c =
    let fit = c.ranges.total in
    rw (to_z-of_z fit) ((above c.args.total (sym (ap (lt_z (pos 0)) (to_z-of_z fit)) ∙ c.if-total-gt0.true)).0, Fits-nat_abs tt fit)

pub returns-then-total-gt0 : goal.returns-then-total-gt0
returns-then-total-gt0 c =
    let fit = c.ranges.total in
    rw (to_z-of_z fit) (above c.args.total (sym (ap (lt_z (pos 0)) (to_z-of_z fit)) ∙ c.if-total-gt0.true)).1

pub returns-else-total-gt0 : goal.returns-else-total-gt0
returns-else-total-gt0 c = not-above c.args.total (sym (ap (lt_z (pos 0)) (to_z-of_z c.ranges.total)) ∙ c.if-total-gt0.false)
