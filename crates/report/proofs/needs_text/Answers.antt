use Rattle.text.proofs.Puts.{puts-at-start}
use Rattle.report.proofs.needs_text.Goals as goal

pub returns-clause-room_after : goal.returns-clause-room_after
returns-clause-room_after c = (puts-at-start c.put_needs.ensures).1
