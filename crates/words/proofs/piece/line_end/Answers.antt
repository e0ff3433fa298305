use Rattle.std.proofs.Common.{◌≡◌, sym, ◌∙◌, arith}
use Rattle.words.proofs.LinesAt.{length-end, length-stop, length-on}
use Rattle.words.proofs.piece.line_end.Goals as goal

pub returns-then-text-i-eq10 : goal.returns-then-text-i-eq10
returns-then-text-i-eq10 c = sym (c.loop-i.invariant.0 ∙ length-stop _ c.loop-i.i (omega arith) c.if-text-i-eq10.true)

pub loop-i-preserved : goal.loop-i-preserved
loop-i-preserved c = (c.loop-i.invariant.0 ∙ length-on _ c.loop-i.i (omega arith) c.if-text-i-eq10.false, omega arith)

pub returns : goal.returns
returns c =
    let e : c.max.result ≡ c.loop-i.i = omega arith in
    e ∙ sym (c.loop-i.invariant.0 ∙ length-end _ c.loop-i.i (omega arith))
