-- `rows::deemed::deemed_under_tm` meets its contract.
use native.Mathlib.Omega.{arith}
use Rattle.rows.proofs.NeedSums.{due-most}
use Rattle.rows.proofs.deemed.deemed_under_tm.Goals as goal

pub overflow_add-under : goal.overflow_add-under
overflow_add-under c =
    let start = c in
    omega (arith, c.client_due-come.ensures, due-most start.args.new, start.requires)

pub returns : goal.returns
returns c = cc
