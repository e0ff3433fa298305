-- `passing::limits::raised_to` meets its contract.
use mathlib.Core.Bool.{not}
use mathlib.Core.Path.{refl}
use native.Mathlib.Omega.{arith}
use lib.Dec.{eqb}
use Rattle.sums.proofs.Sums.{only-most}
use Rattle.sums.proofs.Choices.{pick_first, pick_second}
use Rattle.passing.proofs.limits.raised_to.Goals as goal

pub returns-then-short : goal.returns-then-short
returns-then-short c = pick_first _ c.if-short.true refl

pub overflow_add-result-2 : goal.overflow_add-result-2
overflow_add-result-2 c = omega (arith, c.only_if.ensures, only-most (eqb c.args.sort 2) c.args.its)

pub overflow_add-result-3 : goal.overflow_add-result-3
overflow_add-result-3 c =
    let a = c.args in
    omega (arith, c.only_if.ensures, c.only_if-2.ensures, only-most (eqb a.sort 2) a.its, only-most (not (eqb a.sort 0)) a.top)

pub returns : goal.returns
returns c = pick_second _ c.if-short.false (rw (c.only_if-2.ensures, c.only_if.ensures))
