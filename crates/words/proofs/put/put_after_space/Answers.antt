use Rattle.std.proofs.Common.{arith}
use Rattle.text.proofs.Puts.{and_then}
use Rattle.text.proofs.Digits.{length_most}
use Rattle.words.proofs.put.put_after_space.Goals as goal

pub returns : goal.returns
returns c =
    let p = c.put_text-p.ensures in
    let d = c.put_decimal.ensures in
    let most = length_most 19 c.args.n (omega arith) in
    record { puts = and_then _ _ p d; upper_bound = omega (arith, p.next, d.next, most) }
