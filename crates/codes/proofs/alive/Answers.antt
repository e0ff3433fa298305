-- `codes::alive` meets its contract.
use borrow.Author.Tests.{le-ltb, lt-ltb}
use Rattle.codes.proofs.alive.Goals as goal

pub returns-then-count-a : goal.returns-then-count-a
returns-then-count-a c = rw (le-ltb c.args.a c.args.count c.if-count-a.true)

pub returns : goal.returns
returns c = rw (lt-ltb c.args.a c.args.count c.if-count-a.false)
