use Rattle.text.proofs.Puts.{and_then}
use Rattle.report.specs.Reports.{line_front}
use Rattle.report.proofs.listing.put_front.Goals as goal

pub returns-clause-puts : goal.returns-clause-puts
unfolding line_front
returns-clause-puts c = and_then _ _ c.put_short-p1.ensures.puts (and_then _ _ c.put_sort-p2.ensures.puts (and_then _ _ c.put_state-p3.ensures.puts c.put_short.ensures.puts))
