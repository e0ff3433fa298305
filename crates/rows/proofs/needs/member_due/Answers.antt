-- `rows::needs::member_due` meets its contract.
use native.Mathlib.Omega.{arith}
use lib.Dec.{eqb}
use Rattle.sums.proofs.Sums.{only-most}
use Rattle.rows.proofs.needs.member_due.Goals as goal

pub overflow_add-result : goal.overflow_add-result
overflow_add-result c =
    let at = c in
    let a = at.args.a in
    omega (
      arith,
      at.only_if.ensures,
      c.only_if-2.ensures,
      only-most (eqb a.sort 1) at.deemed.result,
      only-most (eqb a.sort 3) c.deemed-2.result,
    )

pub returns : goal.returns
returns c = cc
