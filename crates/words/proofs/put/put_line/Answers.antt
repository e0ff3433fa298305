use Rattle.std.proofs.Common.{arith}
use Rattle.text.proofs.Puts.{and_then}
use Rattle.words.proofs.Putting.{line-whole}
use Rattle.words.proofs.put.put_line.Goals as goal

pub returns : goal.returns
returns c =
    let f = c.put_front-p1.ensures in
    let k = c.put_kinds-p2.ensures in
    let p = c.put_only-p3.ensures in
    let m = c.put_only-p4.ensures in
    let e = c.put_text.ensures in
    let mark = c.mark_of-mark.ensures.value in
    record { puts = rw (← line-whole) (and_then _ _ f.puts (and_then _ _ k.puts (and_then _ _ (rw mark at p.puts) (and_then _ _ (rw mark at m.puts) e)))); upper_bound = omega (arith, f.upper_bound, k.upper_bound, p.upper_bound, m.upper_bound, e.next) }
