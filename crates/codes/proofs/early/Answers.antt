-- `codes::early` meets its contract.
use mathlib.Core.Bool.{not}
use mathlib.Core.Path.{sym, ap, ◌∙◌}
use borrow.Author.Tests.{eq-eqb, ne_eqb}
use Rattle.sums.specs.Choice.{pick}
use Rattle.sums.proofs.Tables.{first-here, first-later, first_some}
use Rattle.dayfile.specs.Records.{faults, fault_of}
use Rattle.codes.specs.Own.{alive_in, early_number}
use Rattle.codes.proofs.Lines.{only-seven}
use Rattle.codes.proofs.early.Goals as goal

pub returns-then-r-serial : goal.returns-then-r-serial
unfolding early_number
returns-then-r-serial c = sym (first-here 3 _ _ (ap not (ne_eqb _ _ c.if-r-serial.true)))

pub returns-then-fault-ne0 : goal.returns-then-fault-ne0
unfolding early_number fault_of
returns-then-fault-ne0 c =
    let e = c.fault_of-fault.ensures in
    e ∙ sym (first-later 3 _ _ (ap not (eq-eqb _ _ c.if-r-serial.false)) ∙ first_some (faults c.args.r) _ (λ z. c.if-fault-ne0.true (e ∙ z)))

pub returns-then-alive : goal.returns-then-alive
unfolding pick
returns-then-alive c =
    let a = c.args in
    sym (only-seven (alive_in a.live.now a.count a.r.account) a.serial a.r c.if-r-serial.false (sym c.fault_of-fault.ensures ∙ c.if-fault-ne0.false)
    ∙ rw (← c.alive.ensures, c.if-alive.true))

pub returns-else-alive : goal.returns-else-alive
unfolding pick
returns-else-alive c =
    let a = c.args in
    sym (only-seven (alive_in a.live.now a.count a.r.account) a.serial a.r c.if-r-serial.false (sym c.fault_of-fault.ensures ∙ c.if-fault-ne0.false)
    ∙ rw (← c.alive.ensures, c.if-alive.false))
