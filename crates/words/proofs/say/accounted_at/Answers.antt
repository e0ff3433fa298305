use Rattle.std.proofs.Common.{ap, ◌∙◌}
use Rattle.words.specs.Saying.{judged_line}
use Rattle.words.proofs.Saying.{accounted-no, accounted-is}
use Rattle.words.proofs.say.accounted_at.Goals as goal

pub returns-then-a-gt65535 : goal.returns-then-a-gt65535
returns-then-a-gt65535 c = accounted-no _ _ _ _ c.if-a-gt65535.true

pub returns : goal.returns
returns c =
    let a = c.args in
    accounted-is a.text.now a.a a.code a.serial c.if-a-gt65535.false _ (c.judged_line.ensures ∙ ap judged_line c.body_at-body.ensures)
