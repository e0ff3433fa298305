-- `closeout::pays::pay` meets its contract.
use native.Mathlib.Omega.{arith}
use lib.Dec.{eqb}
use Rattle.sums.proofs.Sums.{only-most}
use Rattle.closeout.proofs.Turns.{by-steps}
use Rattle.closeout.proofs.pays.pay.Goals as goal

pub overflow_sub-asked : goal.overflow_sub-asked
overflow_sub-asked c =
    let sort = c.args.sort in
    omega (arith, c.only_if-from_tm.ensures, c.min.ensures, only-most (eqb sort 2) c.min.result)

pub returns : goal.returns
returns c =
    let short = c in
    by-steps _ _ _ _ _ short.min-own.ensures c.min.ensures c.only_if-from_tm.ensures c.min-from_cm.ensures
