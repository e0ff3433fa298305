use Rattle.std.proofs.Common.{◌∙◌, arith}
use Rattle.margins.proofs.Wording.{three-figures, four-figures}
use Rattle.margins.proofs.figures.of_four.Goals as goal

pub returns-then-third-words : goal.returns-then-third-words
returns-then-third-words c = three-figures _ _ _ _ c.up_to-third.ensures.value c.if-third-words.true

pub returns : goal.returns
returns c = c.all_of.ensures ∙ four-figures _ _ _ _ c.up_to-third.ensures.value (omega (arith, c.up_to-third.ensures.upper_bound, c.if-third-words.false)) c.figure_of.ensures c.figure_of-2.ensures c.figure_of-3.ensures c.figure_of-4.ensures
