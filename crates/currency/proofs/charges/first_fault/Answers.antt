-- `currency::charges::first_fault` meets its contract.
use Rattle.std.proofs.Common.{length, sym, ap, ◌∙◌, arith}
use Rattle.std.proofs.Math.Seq.{take-length}
use Rattle.currency.specs.Charges.{first_fault}
use Rattle.currency.proofs.Steps.{fault-here, fault-later, fault-end}
use Rattle.currency.proofs.charges.first_fault.Goals as goal

pub loop-position-init : goal.loop-position-init
loop-position-init c = ap first_fault (sym (take-length c.args.positions.now))

pub returns-then-fault-ne0 : goal.returns-then-fault-ne0
returns-then-fault-ne0 c =
    let f = c.fault_of-fault.ensures in
    f ∙ sym (c.loop-position.invariant ∙ fault-here c.args.positions.now (length c.args.positions.now) c.loop-position.position-index _ (omega arith) (omega arith) (λ e. c.if-fault-ne0.true (f ∙ e)))

pub loop-position-preserved : goal.loop-position-preserved
loop-position-preserved c =
    c.loop-position.invariant ∙ fault-later c.args.positions.now (length c.args.positions.now) c.loop-position.position-index _ (omega arith) (omega arith) (sym c.fault_of-fault.ensures ∙ c.if-fault-ne0.false)

pub returns : goal.returns
returns c = sym (c.loop-position.invariant ∙ fault-end c.args.positions.now (length c.args.positions.now) c.loop-position.position-index (omega arith) (omega arith))
