use borrow.Author.Tests.{not-true, not-false}
use Rattle.words.proofs.Saying.{judged-more, judged-fault, judged-good}
use Rattle.words.proofs.say.judged_line.Goals as goal

pub returns-then-fault-ne0 : goal.returns-then-fault-ne0
returns-then-fault-ne0 c = judged-fault c.args.body _ c.fault_of-fault.ensures c.if-fault-ne0.true

pub returns-then-not-body : goal.returns-then-not-body
returns-then-not-body c = judged-more _ _ c.fault_of-fault.ensures c.if-fault-ne0.false (not-true _ c.if-not-body.true)

pub returns : goal.returns
returns c = judged-good _ _ c.fault_of-fault.ensures c.if-fault-ne0.false (not-false _ c.if-not-body.false)
