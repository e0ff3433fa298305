use Rattle.std.proofs.Common.{◌≡◌, sym, ◌∙◌, arith}
use borrow.Author.Tests.{not-true, not-false}
use Rattle.words.proofs.Steps.{blanks-end, blanks-stop, blanks-on}
use Rattle.words.proofs.scan.past_blanks.Goals as goal

pub returns-then-not-is_blank : goal.returns-then-not-is_blank
returns-then-not-is_blank c = sym (c.loop-i.invariant.0 ∙ blanks-stop _ c.loop-i.i (omega arith) (sym c.is_blank.ensures ∙ not-true _ c.if-not-is_blank.true-raw))

pub loop-i-preserved : goal.loop-i-preserved
loop-i-preserved c = (c.loop-i.invariant.0 ∙ blanks-on _ c.loop-i.i (omega arith) (sym c.is_blank.ensures ∙ not-false _ c.if-not-is_blank.false-raw), omega arith)

pub returns : goal.returns
returns c =
    let e : c.max.result ≡ c.loop-i.i = omega arith in
    e ∙ sym (c.loop-i.invariant.0 ∙ blanks-end _ c.loop-i.i (omega arith))
