use Rattle.std.proofs.Common.{arith}
use Rattle.text.proofs.Puts.{and_then}
use Rattle.words.specs.Inner.{front_part}
use Rattle.words.proofs.put.put_front.Goals as goal

pub returns : goal.returns
unfolding front_part
returns c =
    let s = c.put_serial-p1.ensures in
    let k = c.put_code-p2.ensures in
    let a = c.put_account.ensures in
    record { puts = and_then _ _ s.puts (and_then _ _ k.puts (rw c.opens_account.ensures at a.puts)); upper_bound = omega (arith, s.upper_bound, k.upper_bound, a.upper_bound) }
