use Rattle.std.proofs.Common.{append_assoc}
use Rattle.text.proofs.Puts.{and_then}
use Rattle.report.specs.Holdings.{percent_text}
use Rattle.report.proofs.holding.put_percent.Goals as goal

pub returns-in-Tenths-clause-puts : goal.returns-in-Tenths-clause-puts
unfolding percent_text
returns-in-Tenths-clause-puts c = rw c.in-Tenths.is (rw append_assoc (and_then _ _ c.put_number-q.ensures.puts c.put_number.ensures.puts))

pub returns-in-Without-clause-puts : goal.returns-in-Without-clause-puts
unfolding percent_text
returns-in-Without-clause-puts c = rw c.in-Without.is c.put_text.ensures
