-- `closeout::pays::after_own` meets its contract.
use mathlib.Core.Path.{ap, ◌∙◌}
use native.Mathlib.Omega.{arith}
use Rattle.closeout.specs.Inner.{after_own}
use Rattle.closeout.proofs.Turns.{by-own}
use Rattle.closeout.proofs.pays.after_own.Goals as goal

pub free_with-f-requires : goal.free_with-f-requires
free_with-f-requires c = (rw c.account_of-a.ensures (omega (arith, c.requires.0.margin)), omega (arith, c.requires.1))

pub overflow_sub-result : goal.overflow_sub-result
overflow_sub-result c = omega (arith, c.min-own.ensures)

pub overflow_sub-loss : goal.overflow_sub-loss
overflow_sub-loss c = omega (arith, c.min-own.ensures, c.min.ensures)

pub overflow_sub-result-2 : goal.overflow_sub-result-2
overflow_sub-result-2 c = omega (arith, c.min-2.ensures)

pub returns : goal.returns
returns c =
    let first = c in
    by-own first.account_of-a.result _ _ c.free_with-f.ensures c.min.ensures c.min-own.ensures c.min-2.ensures
    ∙ ap (λ a. after_own a first.args.loss first.args.under) first.account_of-a.ensures
