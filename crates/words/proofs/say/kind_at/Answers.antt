use Rattle.std.proofs.Common.{arith}
use Rattle.words.proofs.Saying.{kind-named, kind-none}
use Rattle.words.proofs.say.kind_at.Goals as goal

pub returns-then-g-word : goal.returns-then-g-word
returns-then-g-word c =
    let g = c in
    let a = g.args in
    record { value = kind-named a.text.now a.at a.word _ g.word_at-g.ensures c.if-g-word.true _ c.number_at-n.ensures; named_bound = omega arith }

pub returns : goal.returns
returns c =
    let g = c in
    let a = g.args in
    record { value = kind-none a.text.now a.at a.word _ g.word_at-g.ensures c.if-g-word.false; named_bound = omega arith }
