-- `text::texts::put_below` meets its contract: the word's four lowest bytes, which begin with the text.
use native.Mathlib.Omega.{arith}
use Rattle.text.specs.Numbers.{space}
use Rattle.text.proofs.TextWords.{text-spills}
use Rattle.text.proofs.Widths.{small-number}
use Rattle.text.proofs.texts.put_below.Goals as goal

pub overflow_add-result : goal.overflow_add-result
overflow_add-result c =
    let s = c in
    let n = s.args.n in
    omega (arith, (s.requires.0.each n s.requires.1).size, small-number 2 n space (omega arith))

pub returns : goal.returns
returns c =
    let s = c in
    let n = s.args.n in
    text-spills n _ (s.requires.0.each n s.requires.1) c.put_word.ensures
