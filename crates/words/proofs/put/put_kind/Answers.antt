use Rattle.std.proofs.Common.{arith}
use Rattle.text.proofs.Puts.{and_then}
use Rattle.words.proofs.Putting.{kind-quiet, kind-told}
use Rattle.words.proofs.put.put_kind.Goals as goal

pub returns-then-bit-eq0 : goal.returns-then-bit-eq0
returns-then-bit-eq0 c = let a = c.args in record { puts = kind-quiet a.bit _ a.x c.if-bit-eq0.true (omega arith); upper_bound = omega arith }

pub returns : goal.returns
returns c =
    let a = c.args in
    let p = c.put_text-p.ensures in
    let q = c.put_text-q.ensures in
    let e = c.put_after_space.ensures in
    record { puts = kind-told a.bit _ a.x c.if-bit-eq0.false (and_then _ _ p (and_then _ _ q e.puts)); upper_bound = omega (arith, p.next, q.next, e.upper_bound) }
