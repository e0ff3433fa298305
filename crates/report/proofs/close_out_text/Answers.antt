use Rattle.text.proofs.Puts.{puts-at-start}
use Rattle.report.proofs.close_out_text.Goals as goal

pub returns-clause-room_after : goal.returns-clause-room_after
returns-clause-room_after c = (puts-at-start c.put_close_out.ensures).1
