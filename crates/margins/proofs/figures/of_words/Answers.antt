use Rattle.std.proofs.Common.{◌∙◌, arith}
use Rattle.margins.proofs.Wording.{one-figure, two-figures, more-figures-on}
use Rattle.margins.proofs.figures.of_words.Goals as goal

pub returns-then-first-words : goal.returns-then-first-words
returns-then-first-words c = one-figure _ _ c.up_to-first.ensures.value c.if-first-words.true

pub returns-then-second-behind : goal.returns-then-second-behind
returns-then-second-behind c = c.all_of.ensures ∙ two-figures _ _ c.up_to-first.ensures.value (omega (arith, c.up_to-first.ensures.upper_bound, c.if-first-words.false)) c.up_to-second.ensures.value c.if-second-behind.true c.figure_of.ensures c.figure_of-then-second-behind.ensures

pub returns : goal.returns
returns c = c.of_four.ensures ∙ more-figures-on _ _ c.up_to-first.ensures.value _ (omega (arith, c.up_to-first.ensures.upper_bound, c.if-first-words.false)) c.up_to-second.ensures.value (omega (arith, c.up_to-second.ensures.upper_bound, c.if-second-behind.false))
