-- `codes::own::wanted` meets its contract.
use borrow.Author.Tests.{eq-eqb, ne_eqb}
use Rattle.sums.specs.Choice.{pick}
use Rattle.codes.proofs.own.wanted.Goals as goal

pub returns-then-code-eq2 : goal.returns-then-code-eq2
unfolding pick
returns-then-code-eq2 c = rw (eq-eqb c.args.code 2 c.if-code-eq2.true)

pub returns-else-code-eq2 : goal.returns-else-code-eq2
unfolding pick
returns-else-code-eq2 c = rw (ne_eqb c.args.code 2 c.if-code-eq2.false)
