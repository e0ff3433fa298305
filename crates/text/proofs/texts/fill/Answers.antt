-- `text::texts::fill` meets its contract. The invariant: the numbers passed have their texts.
use mathlib.Core.Path.{◌∙◌}
use native.Mathlib.Omega.{arith}
use lib.ListN.{length-set}
use Rattle.text.proofs.TextWords.{texts-more}
use Rattle.text.proofs.texts.fill.Goals as goal

pub loop-n-preserved : goal.loop-n-preserved
loop-n-preserved c =
    let l = c.loop-n in
    (length-set l.t l.n _ ∙ l.invariant.0, texts-more l.t l.n _ (omega arith) l.invariant.1 c.text_of.ensures)

pub returns : goal.returns
returns c = let v = c.loop-n.invariant in record { whole = v.0; each = λ k h. v.1 k (omega arith) }
