use Rattle.text.proofs.Puts.{puts-at-start}
use Rattle.report.specs.Reports.{standings_text}
use Rattle.report.proofs.standings_text.Goals as goal

pub returns-clause-value : goal.returns-clause-value
unfolding standings_text
returns-clause-value c = (puts-at-start (rw c.accounts-n.ensures at c.put_standings.ensures)).0

pub returns-clause-room_after : goal.returns-clause-room_after
unfolding standings_text
returns-clause-room_after c = (puts-at-start (rw c.accounts-n.ensures at c.put_standings.ensures)).1
