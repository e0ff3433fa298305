-- `rows::needs::collateral_of` meets its contract: securities count for no more than their face value, so that the sum fits a word.
use native.Mathlib.Omega.{arith}
use Rattle.rows.specs.declared.Rule.TheVariants.{New}
use Rattle.rows.proofs.Counted.{counted-most}
use Rattle.rows.proofs.needs.collateral_of.Goals as goal

pub overflow_add-result-4 : goal.overflow_add-result-4
overflow_add-result-4 c =
    let start = c in
    omega (arith, c.counted_of.ensures, counted-most New start.args.r.allocated.securities, start.requires)
