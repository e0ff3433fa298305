use Rattle.words.proofs.Steps.{token-is, token-not}
use Rattle.words.proofs.scan.token_at.Goals as goal

pub returns-then-g-p : goal.returns-then-g-p
returns-then-g-p c =
    let g = c in
    let a = g.args in
    token-not _ _ _ _ a.text.now a.at _ g.past_blanks-p.ensures _ g.said_at-g.ensures c.if-g-p.true

pub returns : goal.returns
returns c =
    let g = c in
    let a = g.args in
    token-is _ _ _ _ a.text.now a.at _ g.past_blanks-p.ensures _ g.said_at-g.ensures c.if-g-p.false
