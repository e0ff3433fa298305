-- `currency::charges::charged` meets its contract.
use Rattle.std.proofs.Common.{length, ap, ◌∙◌, arith}
use Rattle.std.proofs.Math.Seq.{take-length}
use Rattle.currency.specs.Charges.{first_fault, charges}
use Rattle.currency.proofs.Steps.{no-fault-step, charge-step, charges-end}
use Rattle.currency.proofs.charges.charged.Goals as goal

pub loop-position-init : goal.loop-position-init
loop-position-init c =
    let e = take-length c.args.positions.now in
    (omega arith, ap first_fault e ∙ c.requires.1, omega (arith, ap charges e))

pub charge-sum-requires : goal.charge-sum-requires
charge-sum-requires c =
    let l = c.args.positions.now in
    (no-fault-step l (length l) c.loop-position.position-index _ (omega arith) (omega arith) c.loop-position.invariant.1).0

pub overflow_add-sum : goal.overflow_add-sum
overflow_add-sum c =
    let l = c.args.positions.now in
    let s = charge-step l (length l) c.loop-position.position-index _ (omega arith) c.charge-sum.result c.charge-sum.ensures (omega arith) c.loop-position.invariant.1 in
    record { fits = omega (arith, s.0) }

pub loop-position-preserved : goal.loop-position-preserved
loop-position-preserved c =
    let l = c.args.positions.now in
    let s = charge-step l (length l) c.loop-position.position-index _ (omega arith) c.charge-sum.result c.charge-sum.ensures (omega arith) c.loop-position.invariant.1 in
    (omega (arith, s.0), s.1, omega (arith, c.loop-position.invariant.2, s.2))

pub returns : goal.returns
returns c =
    let l = c.args.positions.now in
    omega (arith, c.loop-position.invariant.2, charges-end l (length l) c.loop-position.position-index (omega arith) (omega arith))
