-- `text::put_each` meets its contract. The invariant: the first numbers stand in the room, at most 21 bytes each.
use native.Mathlib.Omega.{arith}
use lib.ListN.{take}
use lib.Seq.{take_all, length-take-le}
use Rattle.text.specs.Numbers.{and_spaces}
use Rattle.text.proofs.Puts.{puts_none, puts-length}
use Rattle.text.proofs.Lists.{number_more}
use Rattle.text.proofs.put_each.Goals as goal

pub loop-x-init : goal.loop-x-init
unfolding and_spaces
loop-x-init c = (puts_none _ _ (omega arith) (omega arith), omega arith)

pub put_number-place-requires : goal.put_number-place-requires
put_number-place-requires c = omega (arith, puts-length c.loop-x.invariant.0, length-take-le c.args.n c.args.list.now c.requires.0)

pub loop-x-preserved : goal.loop-x-preserved
loop-x-preserved c = (number_more _ c.loop-x.x-index c.loop-x-test.true c.loop-x.invariant.0 c.put_number-place.ensures.puts, omega arith)

pub returns : goal.returns
returns c =
    let l = c.loop-x in
    let list = take c.args.n c.args.list.now in
    let puts = rw (take_all l.x-index list c.loop-x-test.false) at l.invariant.0 in
    record { puts = puts; upper_bound = omega (arith, length-take-le c.args.n c.args.list.now c.requires.0) }
