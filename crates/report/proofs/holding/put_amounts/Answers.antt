use Rattle.std.proofs.Common.{arith}
use Rattle.sums.specs.Listed.{list_to}
use Rattle.report.proofs.Widths.{amounts-most}
use Rattle.report.proofs.holding.put_amounts.Goals as goal

pub returns-clause-puts : goal.returns-clause-puts
unfolding list_to
returns-clause-puts c = c.put_each.ensures.puts

pub returns-clause-upper_bound : goal.returns-clause-upper_bound
unfolding list_to
returns-clause-upper_bound c = omega (arith, c.put_each.ensures.puts.next, amounts-most c.args.r c.requires.0)
