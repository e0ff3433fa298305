use borrow.Author.Tests.{not-true, not-false}
use Rattle.words.proofs.Answers.{raw-none, raw-more, raw-says}
use Rattle.words.proofs.one.raw_meant.Goals as goal

pub returns-then-h-eq0 : goal.returns-then-h-eq0
returns-then-h-eq0 c = raw-none c.args.line.now c.args.from _ _ c.hex_at-h.ensures c.if-h-eq0.true

pub returns-then-not-ends_at : goal.returns-then-not-ends_at
returns-then-not-ends_at c =
    let e = c in
    let a = e.args in
    raw-more a.line.now a.from _ _ e.hex_at-h.ensures e.if-h-eq0.false _ e.ends_at.ensures (not-true _ c.if-not-ends_at.true-raw)

pub returns : goal.returns
returns c =
    let e = c in
    let a = e.args in
    raw-says a.line.now a.from _ _ e.hex_at-h.ensures e.if-h-eq0.false _ e.ends_at.ensures (not-false _ c.if-not-ends_at.false-raw)
