use Rattle.std.proofs.Common.{◌∙◌, arith}
use Rattle.margins.proofs.Wording.{one_word, by-figures, by-position}
use Rattle.margins.proofs.lines.of_words.Goals as goal

pub returns-then-first-line : goal.returns-then-first-line
returns-then-first-line c = one_word _ _ c.up_to-first.ensures.value c.if-first-line.true

pub returns-then-is_same : goal.returns-then-is_same
returns-then-is_same c = c.of_words.ensures ∙ by-figures _ _ c.up_to-first.ensures.value (omega (arith, c.up_to-first.ensures.upper_bound, c.if-first-line.false)) c.is_same.ensures c.if-is_same.true

pub returns : goal.returns
returns c = c.position.ensures ∙ by-position _ _ c.up_to-first.ensures.value (omega (arith, c.up_to-first.ensures.upper_bound, c.if-first-line.false)) c.is_same.ensures c.if-is_same.false
