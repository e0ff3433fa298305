-- `codes::asked::kind_of` meets its contract.
use borrow.Author.Tests.{ne_eqb}
use Rattle.sums.specs.Choice.{pick}
use Rattle.codes.proofs.asked.kind_of.Goals as goal

pub returns-in-1 : goal.returns-in-1
unfolding pick
returns-in-1 c = rw c.in-1.is

pub returns-in-2 : goal.returns-in-2
unfolding pick
returns-in-2 c = rw c.in-2.is

pub returns-in-4 : goal.returns-in-4
unfolding pick
returns-in-4 c = rw c.in-4.is

pub returns-in_default : goal.returns-in_default
unfolding pick
returns-in_default c = let g = c.in_default.in_default-own.rest in let n = c.args.named in rw (ne_eqb n 1 g.0.0.1, ne_eqb n 2 g.0.1, ne_eqb n 4 g.1)
