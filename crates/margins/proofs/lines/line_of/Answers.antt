use Rattle.std.proofs.Common.{◌∙◌}
use Rattle.margins.proofs.Wording.{empty-line, remark, has_words}
use Rattle.margins.proofs.lines.line_of.Goals as goal

pub returns-then-line-eq0 : goal.returns-then-line-eq0
returns-then-line-eq0 c = empty-line _ c.if-line-eq0.true

pub returns-then-line-eq35 : goal.returns-then-line-eq35
returns-then-line-eq35 c = remark _ c.if-line-eq0.false c.if-line-eq35.true

pub returns : goal.returns
returns c = c.of_words.ensures ∙ has_words _ c.if-line-eq0.false c.if-line-eq35.false
