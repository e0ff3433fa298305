-- `text::put_number` meets its contract: the digits, then the mark.
use native.Mathlib.Omega.{arith}
use Rattle.text.proofs.Digits.{length_most}
use Rattle.text.proofs.Puts.{puts_one, and_then}
use Rattle.text.proofs.put_number.Goals as goal

pub bounds-room-p : goal.bounds-room-p
bounds-room-p c = omega (arith, length_most 19 c.args.n (omega arith))

pub returns : goal.returns
returns c =
    let w = length_most 19 c.args.n (omega arith) in
    record { puts = and_then _ _ c.put_decimal-p.ensures (puts_one _ _ _ (omega (arith, w))); upper_bound = omega (arith, w) }
