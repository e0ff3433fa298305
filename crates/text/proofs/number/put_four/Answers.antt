-- `text::number::put_four` meets its contract: a number below 100, or one and its last two digits after it.
use Prim.Native.Nat.{◌/◌}
use native.Mathlib.Omega.{arith}
use Rattle.text.proofs.Digits.{length_most}
use Rattle.text.proofs.Pairs.{hundred-more}
use Rattle.text.proofs.number.put_four.Goals as goal

pub put_pair-requires : goal.put_pair-requires
put_pair-requires c =
    let n = c.args.n in
    omega (arith, length_most 1 (n / 100) (omega arith))

pub returns : goal.returns
returns c = let p = c in hundred-more _ (omega arith) p.put_two-p.ensures c.put_pair.ensures
