use Rattle.std.proofs.Common.{arith, rules}
use Rattle.rows.specs.declared.Rule.TheVariants.{New}
use Rattle.rows.specs.Rows.{counted}
use Rattle.rows.proofs.Counted.{counted-most}
use Rattle.steps.proofs.following.collateral_at.Goals as goal

pub overflow_add-result-4 : goal.overflow_add-result-4
overflow_add-result-4 c = omega (arith, counted-most New c.word_at-5.result, c.counted_of.ensures)

pub returns : goal.returns
unfolding counted
returns c = search rules
