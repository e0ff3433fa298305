-- `lines::closing::put_closing` meets its contract: the word, then the two counts.
use native.Mathlib.Omega.{arith}
use Rattle.text.specs.Numbers.{spaced}
use Rattle.text.proofs.Puts.{and_then}
use Rattle.lines.specs.Lines.{closing_line_of}
use Rattle.lines.proofs.Widths.{word-most}
use Rattle.lines.proofs.closing.put_closing.Goals as goal

pub put_number-p2-requires : goal.put_number-p2-requires
put_number-p2-requires c =
    let w = c in omega (arith, word-most w.args.closing, w.put_word-p1.ensures.next)

pub put_number-requires : goal.put_number-requires
put_number-requires c =
    let w = c in
    omega (arith, word-most w.args.closing, w.put_word-p1.ensures.next)

pub returns : goal.returns
unfolding closing_line_of spaced
returns c =
    let done = c in
    let read = done in
    and_then _ _ read.put_word-p1.ensures (and_then _ _ read.put_number-p2.ensures.puts done.put_number.ensures.puts)
