use Rattle.words.proofs.Saying.{only_yes, only_no}
use Rattle.words.proofs.say.only_at.Goals as goal

pub returns-then-wanted : goal.returns-then-wanted
returns-then-wanted c =
    let a = c.args in
    only_yes a.text.now a.at a.wanted _ c.if-wanted.true c.number_at.ensures

pub returns : goal.returns
returns c =
    let a = c.args in
    only_no a.text.now a.at a.wanted c.if-wanted.false
