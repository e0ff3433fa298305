use Rattle.words.proofs.Saying.{then_is}
use Rattle.words.proofs.say.word_then.Goals as goal

pub returns : goal.returns
returns c =
    let a = c.args in
    then_is a.text.now a.word a.serial _ _ c.code_of-code.ensures c.coded_at.ensures
