use Rattle.std.proofs.Common.{get_or, ap, ◌∙◌, arith}
use native.Mathlib.Numerals.{add-one}
use Rattle.text.proofs.Puts.{puts_none, and_then, puts-as}
use Rattle.report.specs.Reports.{need_line, lines_of}
use Rattle.report.proofs.need.put_list.Goals as goal

pub loop-i-init : goal.loop-i-init
unfolding lines_of
loop-i-init c = (puts_none _ _ (omega arith) (omega arith), omega arith)

pub loop-i-preserved : goal.loop-i-preserved
unfolding lines_of
loop-i-preserved c =
    let l = c.loop-i in
    let e = puts-as (ap (λ k. need_line k (get_or c.args.needs.now l.i 0)) (c.from.ensures ∙ c.number_at-number.ensures)) c.put_spaced-at.ensures.puts in
    (rw (add-one l.i) (and_then _ _ l.invariant.0 e), omega (arith, c.put_spaced-at.ensures.upper_bound, l.invariant.1))
