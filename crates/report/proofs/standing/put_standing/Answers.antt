use Rattle.text.proofs.Puts.{and_then}
use Rattle.report.specs.Reports.{standing_line}
use Rattle.report.proofs.standing.put_standing.Goals as goal

pub returns-clause-puts : goal.returns-clause-puts
unfolding standing_line
returns-clause-puts c = and_then _ _ c.put_front-p1.ensures.puts (and_then _ _ c.put_five-p2.ensures.puts (and_then _ _ c.put_mode-p3.ensures.puts c.put_number.ensures.puts))
