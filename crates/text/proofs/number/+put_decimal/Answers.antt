-- `text::number::put_decimal` meets its contract. It calls itself with a hundredth of the number, which is the measure.
use Prim.Native.Nat.{◌/◌}
use native.Mathlib.Omega.{arith}
use Rattle.text.proofs.Digits.{length_most}
use Rattle.text.proofs.Pairs.{hundred-more}
use Rattle.text.proofs.number.+put_decimal.Goals as goal

pub put_pair-requires : goal.put_pair-requires
put_pair-requires t c = omega (arith, length_most 17 (c.args.n / 100) (omega arith))

pub returns : goal.returns
returns t c = hundred-more _ (omega arith) c.put_decimal-p.ensures c.put_pair.ensures
