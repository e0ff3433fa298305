-- `statement::records::surplus_fault` meets its contract.
use Rattle.statement.proofs.Reading.{surplus-form, surplus-26}
use Rattle.statement.proofs.records.surplus_fault.Goals as goal

pub returns-then-fault-ne0 : goal.returns-then-fault-ne0
returns-then-fault-ne0 c = let a = c.args in surplus-form a.piece.now a.place _ c.form_fault-fault.ensures c.if-fault-ne0.true

pub returns : goal.returns
returns c = let a = c.args in surplus-26 a.piece.now a.place _ c.form_fault-fault.ensures c.if-fault-ne0.false
