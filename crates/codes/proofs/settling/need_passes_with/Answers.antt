-- `codes::settling::need_passes_with` meets its contract.
use mathlib.Core.Bool.{not}
use native.Mathlib.Omega.{arith}
use lib.Dec.{eqb}
use Rattle.sums.proofs.Sums.{only-most}
use Rattle.codes.proofs.settling.need_passes_with.Goals as goal

pub overflow_add-result : goal.overflow_add-result
overflow_add-result c =
    let a = c.args in
    omega (arith, c.only_if-own.ensures, c.only_if-other.ensures, only-most (eqb a.a.sort 0) a.y, only-most (not (eqb a.a.sort 0)) a.top.margin, c.requires)

pub overflow_add-result-2 : goal.overflow_add-result-2
overflow_add-result-2 c =
    let a = c.args in
    omega (arith, c.only_if-own.ensures, c.only_if-other.ensures, only-most (eqb a.a.sort 0) a.y, only-most (not (eqb a.a.sort 0)) a.top.margin, c.requires)

pub returns : goal.returns
returns c = rw (c.only_if-own.ensures, c.only_if-other.ensures)
