-- `steps::gone_with` meets its contract.
use Rattle.std.proofs.Common.{arith, eq-eqb, ne_eqb, le-leb}
use borrow.Author.Tests.{lt-leb}
use Rattle.sums.specs.Choice.{pick}
use Rattle.steps.proofs.gone_with.Goals as goal

pub returns-then-n-gt3 : goal.returns-then-n-gt3
unfolding pick
returns-then-n-gt3 c =
    let args = c.args in
    rw (ne_eqb args.n 0 c.if-n-ne0.true, lt-leb args.n 3 c.if-n-gt3.true, c.wrapping_add_u16-after.ensures.value)

pub returns-else-n-gt3 : goal.returns-else-n-gt3
unfolding pick
returns-else-n-gt3 c =
    let args = c.args in
    rw (ne_eqb args.n 0 c.if-n-ne0.true, le-leb args.n 3 c.if-n-gt3.false)

pub overflow_cast-result : goal.overflow_cast-result
overflow_cast-result c = let l = c.requires c.if-n-ne0.false c.if-opening.true in omega arith

pub overflow_add-result : goal.overflow_add-result
overflow_add-result c = let l = c.requires c.if-n-ne0.false c.if-opening.true in omega arith

pub overflow_add-result-then-opening : goal.overflow_add-result-then-opening
overflow_add-result-then-opening c = let l = c.requires c.if-n-ne0.false c.if-opening.true in omega arith

pub returns-then-opening : goal.returns-then-opening
unfolding pick
returns-then-opening c = rw (eq-eqb c.args.n 0 c.if-n-ne0.false, c.if-opening.true, c.wrapping_add_u16-after.ensures.value)

pub returns : goal.returns
unfolding pick
returns c = rw (eq-eqb c.args.n 0 c.if-n-ne0.false, c.if-opening.false, c.wrapping_add_u16-after.ensures.value)
