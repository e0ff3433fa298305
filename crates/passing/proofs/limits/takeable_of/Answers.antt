-- `passing::limits::takeable_of` meets its contract.
use mathlib.Core.Path.{refl}
use native.Mathlib.Omega.{arith}
use borrow.Author.Tests.{eq-eqb, ne_eqb}
use Rattle.sums.proofs.Choices.{pick_first, pick_second}
use Rattle.rows.specs.declared.Rule.TheVariants.{New}
use Rattle.rows.proofs.Counted.{counted-most}
use Rattle.passing.proofs.limits.takeable_of.Goals as goal

pub returns-then-named-ne8 : goal.returns-then-named-ne8
returns-then-named-ne8 c = pick_second _ (ne_eqb _ _ c.if-named-ne8.true) refl

pub overflow_mul-worth : goal.overflow_mul-worth
overflow_mul-worth c = omega (arith, counted-most New c.args.row.allocated.securities, c.less-worth.ensures, c.counted_of.ensures)

pub overflow_add-worth : goal.overflow_add-worth
overflow_add-worth c = omega (arith, counted-most New c.args.row.allocated.securities, c.less-worth.ensures, c.counted_of.ensures)

pub returns : goal.returns
returns c = pick_first _ (eq-eqb _ _ c.if-named-ne8.false) (rw (c.less.ensures, c.less-worth.ensures, c.counted_of.ensures))
