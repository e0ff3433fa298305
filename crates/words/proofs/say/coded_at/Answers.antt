use Rattle.words.proofs.Saying.{coded-no, coded-is}
use Rattle.words.proofs.say.coded_at.Goals as goal

pub returns-then-code-eq0 : goal.returns-then-code-eq0
returns-then-code-eq0 c = coded-no _ _ _ _ c.if-code-eq0.true

pub returns : goal.returns
returns c =
    let a = c.args in
    coded-is a.text.now a.at a.code a.serial c.if-code-eq0.false _ _ c.account_at-a.ensures c.accounted_at.ensures
