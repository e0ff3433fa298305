use Rattle.std.proofs.Common.{sym, ◌∙◌, arith}
use Rattle.margins.proofs.Showing.{put_written, put_refused}
use Rattle.margins.proofs.printed.put_written.Goals as goal

pub returns-in-Written : goal.returns-in-Written
returns-in-Written c = put_written _ _ _ (omega (arith, c.requires)) c.write.ensures.room_after _ (sym c.in-Written.is ∙ c.write.ensures.value.0)

pub returns-in-Refused : goal.returns-in-Refused
returns-in-Refused c = put_refused _ _ _ (omega (arith, c.requires)) c.write.ensures.room_after _ (sym c.in-Refused.is ∙ c.write.ensures.value.0)
