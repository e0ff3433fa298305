use Rattle.std.proofs.Common.{arith}
use Rattle.words.proofs.Steps.{end-past, end_is}
use Rattle.words.proofs.scan.ends_at.Goals as goal

pub returns-then-text-p : goal.returns-then-text-p
returns-then-text-p c =
    let a = c.args in
    end-past a.text.now a.at _ c.past_blanks-p.ensures c.if-text-p.true

pub returns : goal.returns
returns c =
    let p = c in
    let a = p.args in
    end_is a.text.now a.at p.past_blanks-p.result p.past_blanks-p.ensures (omega arith)
