-- `statement::records::sum_fault` meets its contract.
use Rattle.statement.proofs.Reading.{sum-27, sum-27-too, sum-28, sum-29, sum-0}
use Rattle.statement.proofs.records.sum_fault.Goals as goal

pub returns-then-p : goal.returns-then-p
returns-then-p c = sum-27 _ _ _ c.if-p.true

pub returns-then-p-2 : goal.returns-then-p-2
returns-then-p-2 c = sum-27-too _ _ _ c.if-p.false c.if-p-2.true

pub returns-then-p-received : goal.returns-then-p-received
returns-then-p-received c = sum-28 _ _ _ c.if-p.false c.if-p-2.false c.if-p-received.true

pub returns-then-allocated-p : goal.returns-then-allocated-p
returns-then-allocated-p c = sum-29 _ _ _ c.if-p.false c.if-p-2.false c.if-p-received.false c.if-allocated-p.true

pub returns : goal.returns
returns c = sum-0 _ _ _ c.if-p.false c.if-p-2.false c.if-p-received.false c.if-allocated-p.false
