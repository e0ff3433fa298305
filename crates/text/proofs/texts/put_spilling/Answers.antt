-- `text::texts::put_spilling` meets its contract: a number below 1,000, or its thousands and three digits over their space.
use Prim.Native.Nat.{◌/◌, ◌%◌}
use native.Mathlib.Omega.{arith}
use Rattle.text.specs.Numbers.{space}
use Rattle.text.proofs.TextWords.{thousand-more}
use Rattle.text.proofs.Puts.{puts-length}
use Rattle.text.proofs.Spilling.{spill-next}
use Rattle.text.proofs.Widths.{some_number, small-number}
use Rattle.text.proofs.texts.put_spilling.Goals as goal

pub returns-then-n-lt1000 : goal.returns-then-n-lt1000
returns-then-n-lt1000 c =
    let e = c.put_below.ensures in
    let n = c.args.n in
    record { spills = e; upper_bound = omega (arith, spill-next e, small-number 2 n space (omega arith)) }

pub overflow_sub-p : goal.overflow_sub-p
overflow_sub-p c =
    let n = c.args.n in
    omega (arith, spill-next c.put_below-p.ensures, some_number (n / 1000) space)

pub put_word-requires : goal.put_word-requires
put_word-requires c =
    let b = c in
    let n = b.args.n in
    omega (arith, spill-next b.put_below-p.ensures, small-number 1 (n / 1000) space (omega arith), b.put_below-p.auto.room)

pub returns : goal.returns
returns c =
    let w = c in
    let b = w in
    let s = b in
    let n = s.args.n in
    let e = b.put_below-p.ensures in
    let padded = (s.requires.0.each (n % 1000) (omega arith)).padded in
    let short = small-number 1 (n / 1000) space (omega arith) in
    record { spills = thousand-more n _ b.if-n-lt1000.false e w.put_word.ensures padded; upper_bound = omega (arith, spill-next e, short) }

pub shape_of-room : goal.shape_of-room
shape_of-room c = puts-length (returns c).spills.puts
