-- `archives::found::has_line` meets its contract. The invariant: what is left of the file decides, and whether a line begins there.
use Rattle.std.proofs.Common.{sym, ◌∙◌, arith}
use Rattle.archives.proofs.Looked.{has-none, has_here, has-later}
use Rattle.archives.proofs.found.has_line.Goals as goal

pub returns-then-is_at : goal.returns-then-is_at
returns-then-is_at c =
    let a = c.args in
    sym (c.loop-i.invariant ∙ has_here c.loop-i.begins a.file.now a.line.now c.loop-i.i (omega arith) (sym c.is_at.ensures ∙ c.if-is_at.true))

pub loop-i-preserved : goal.loop-i-preserved
loop-i-preserved c =
    let a = c.args in
    c.loop-i.invariant ∙ has-later c.loop-i.begins a.file.now a.line.now c.loop-i.i (omega arith) (sym c.is_at.ensures ∙ c.if-is_at.false)

pub returns : goal.returns
returns c =
    let a = c.args in
    sym (c.loop-i.invariant ∙ has-none c.loop-i.begins a.file.now a.line.now c.loop-i.i (omega arith))
