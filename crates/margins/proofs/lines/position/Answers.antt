use Rattle.std.proofs.Common.{◌∙◌, arith}
use Rattle.margins.proofs.Wording.{no-side, no-product, one-position}
use Rattle.margins.proofs.lines.position.Goals as goal

pub returns-then-second-words : goal.returns-then-second-words
returns-then-second-words c = no-side _ _ _ c.up_to-second.ensures.value c.if-second-words.true

pub returns-then-not-names_product : goal.returns-then-not-names_product
returns-then-not-names_product c = no-product _ _ _ c.up_to-second.ensures.value (omega (arith, c.up_to-second.ensures.upper_bound, c.if-second-words.false)) c.names_product.ensures c.if-not-names_product.true

pub returns : goal.returns
returns c = c.held.ensures ∙ one-position _ _ _ c.up_to-second.ensures.value (omega (arith, c.up_to-second.ensures.upper_bound, c.if-second-words.false)) c.names_product.ensures c.if-not-names_product.false c.product_of.ensures c.side_of.ensures c.number_of.ensures
