use Rattle.words.proofs.Saying.{line-none, line-some}
use Rattle.words.proofs.say.line_says.Goals as goal

pub returns-then-ends_at : goal.returns-then-ends_at
returns-then-ends_at c =
    let a = c.args in
    line-none a.line.now a.running _ c.ends_at.ensures c.if-ends_at.true

pub returns : goal.returns
returns c =
    let a = c.args in
    line-some a.line.now a.running _ c.ends_at.ensures c.if-ends_at.false _ _ c.word_at-word.ensures c.worded_at.ensures
