use Rattle.std.proofs.Common.{arith}
use Rattle.text.proofs.Puts.{and_then}
use Rattle.words.proofs.Putting.{serial-quiet, serial-told}
use Rattle.words.proofs.put.put_serial.Goals as goal

pub returns-then-next : goal.returns-then-next
returns-then-next c = let a = c.args in record { puts = serial-quiet a.next a.n c.if-next.true (omega arith); upper_bound = omega arith }

pub returns : goal.returns
returns c =
    let a = c.args in
    let p = c.put_text-p.ensures in
    let e = c.put_short.ensures in
    record { puts = serial-told a.next a.n c.if-next.false (and_then _ _ p e.puts); upper_bound = omega (arith, p.next, e.upper_bound) }
