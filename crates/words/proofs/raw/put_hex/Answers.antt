use Rattle.std.proofs.Common.{refl, arith, take_all}
use Rattle.text.proofs.Puts.{puts_none, puts-length}
use Rattle.words.specs.Hex.{hex_of}
use Rattle.words.proofs.Putting.{byte_more}
use Rattle.words.proofs.raw.put_hex.Goals as goal

pub loop-b-init : goal.loop-b-init
unfolding hex_of
loop-b-init c = (puts_none _ _ refl (omega arith), omega arith)

pub put_byte-place-requires : goal.put_byte-place-requires
put_byte-place-requires c = omega (arith, puts-length c.loop-b.invariant.0)

pub loop-b-preserved : goal.loop-b-preserved
loop-b-preserved c =
    let e = c.put_byte-place.ensures in
    (byte_more _ c.loop-b.b-index (omega arith) c.loop-b.invariant.0 e, omega (arith, e.next))

pub returns : goal.returns
returns c = record { puts = rw (take_all c.loop-b.b-index _ c.loop-b-test.false) at c.loop-b.invariant.0; upper_bound = omega arith }
