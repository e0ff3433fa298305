use Rattle.std.proofs.Common.{arith}
use Rattle.lookup.proofs.Places.{place_none}
use Rattle.closeouts.proofs.Named.{place-first, none_yet}
use Rattle.closeouts.proofs.loss_lines.first_place.Goals as goal

pub returns-then-numbers-i : goal.returns-then-numbers-i
returns-then-numbers-i c = (place-first _ _ _ c.loop-i.i c.loop-i-test.true c.if-numbers-i.true c.loop-i.invariant, c.loop-i-test.true)

pub loop-i-preserved : goal.loop-i-preserved
loop-i-preserved c = none_yet c.args.numbers.now _ c.loop-i.i c.if-numbers-i.false c.loop-i.invariant

pub returns : goal.returns
returns c = place_none _ _ _ (λ j q. c.loop-i.invariant j (omega (arith, q, c.loop-i-test.false)))
