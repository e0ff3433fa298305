use Rattle.std.proofs.Common.{arith}
use Rattle.text.proofs.Puts.{and_then}
use Rattle.words.specs.Inner.{kinds_part}
use Rattle.words.proofs.put.put_kinds.Goals as goal

pub returns : goal.returns
unfolding kinds_part
returns c =
    let k0 = c.put_kind-p1.ensures in
    let k1 = c.put_kind-p2.ensures in
    let k2 = c.put_kind-p3.ensures in
    let k3 = c.put_kind.ensures in
    record { puts = and_then _ _ k0.puts (and_then _ _ k1.puts (and_then _ _ k2.puts k3.puts)); upper_bound = omega (arith, k0.upper_bound, k1.upper_bound, k2.upper_bound, k3.upper_bound) }
