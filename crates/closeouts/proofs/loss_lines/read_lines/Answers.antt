use Rattle.std.proofs.Common.{arith}
use Rattle.words.proofs.LinesAt.{line-more, line-within}
use Rattle.closeouts.proofs.Named.{text-over, text-fails, text-goes}
use Rattle.closeouts.proofs.loss_lines.read_lines.Goals as goal

pub slice_bounds-loss_of-end : goal.slice_bounds-loss_of-end
slice_bounds-loss_of-end c = line-within c.args.text.now c.loop-place.place _ c.loop-place-test.true c.line_end-end.ensures

pub returns-in-Err-clause-result_value : goal.returns-in-Err-clause-result_value
returns-in-Err-clause-result_value c =
    let l = c.loop-place in
    text-fails c.args.text.now l.place l.line l.losses _ c.loop-place-test.true c.line_end-end.ensures l.invariant.0 c.loss_of-loss.ensures _ c.in-Err.ensures

pub loop-place-smaller : goal.loop-place-smaller
loop-place-smaller c =
    let l = c.loop-place in
    let t = c.args.text.now in
    let e = c.line_end-end in
    omega (arith, line-more t l.place _ c.loop-place-test.true e.ensures, line-within t l.place _ c.loop-place-test.true e.ensures)

pub loop-place-preserved : goal.loop-place-preserved
loop-place-preserved c =
    let l = c.loop-place in
    let t = c.args.text.now in
    let e = c.line_end-end in
    let more = line-more t l.place _ c.loop-place-test.true e.ensures in
    let p = c.in-Ok.ensures in
    (text-goes t l.place l.line l.losses _ c.loop-place-test.true e.ensures l.invariant.0 c.loss_of-loss.ensures _ p, p.few, omega arith, omega (arith, more, l.invariant), line-within t l.place _ c.loop-place-test.true e.ensures)

pub returns-clause-result_value : goal.returns-clause-result_value
returns-clause-result_value c =
    let l = c.loop-place in
    text-over c.args.text.now l.place l.line l.losses c.loop-place-test.false l.invariant.0
