-- `telling::put_told` meets its contract.
use Rattle.text.proofs.Puts.{puts-as}
use Rattle.telling.proofs.Lines.{line-five, line-seven}
use Rattle.telling.proofs.put_told.Goals as goal

pub returns-then-explained-gone : goal.returns-then-explained-gone
returns-then-explained-gone c =
    let p = c in
    let i = p in
    let a = i.args in
    puts-as (line-five a.explained _ a.h a.gone i.if-explained-gone.true) p.put_line.ensures

pub returns : goal.returns
returns c =
    let p = c in
    let m = p in
    let a = m.args in
    puts-as (line-seven a.explained _ a.h a.gone m.if-explained-gone.false m.most_at-most.ensures) p.put_spaced.ensures.puts
