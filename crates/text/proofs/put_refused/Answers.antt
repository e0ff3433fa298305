-- `text::put_refused` meets its contract.
use native.Mathlib.Omega.{arith}
use Rattle.text.specs.Words.{refused_at}
use Rattle.text.proofs.Puts.{and_then}
use Rattle.text.proofs.put_refused.Goals as goal

pub returns : goal.returns
unfolding refused_at
returns c =
    let n = c.put_number-p.ensures in
    let t = c.put_text-q.ensures in
    let k = c.put_number.ensures in
    record { puts = and_then _ _ n.puts (and_then _ _ t k.puts); upper_bound = omega (arith, n.upper_bound, t.next, k.upper_bound) }
