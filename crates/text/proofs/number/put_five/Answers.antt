-- `text::number::put_five` meets its contract: a number below 100, or a hundredth of it by `put_four` and its last two digits after that.
use Prim.Native.Nat.{◌/◌}
use native.Mathlib.Omega.{arith}
use Rattle.text.proofs.Digits.{length_most}
use Rattle.text.proofs.Pairs.{hundred-more}
use Rattle.text.proofs.number.put_five.Goals as goal

pub put_pair-requires : goal.put_pair-requires
put_pair-requires c =
    let n = c.args.n in
    omega (arith, length_most 2 (n / 100) (omega arith))

pub returns : goal.returns
returns c = let p = c in hundred-more _ (omega arith) p.put_four-p.ensures c.put_pair.ensures
