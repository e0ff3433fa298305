use Rattle.std.proofs.Common.{arith}
use native.Mathlib.Numerals.{add-one}
use Rattle.text.proofs.Puts.{puts_none, and_then, puts-length, puts-as}
use Rattle.report.specs.Reports.{lines_of}
use Rattle.report.proofs.Listed.{row-shown, line-is}
use Rattle.report.proofs.listing.put_rows.Goals as goal

pub loop-i-init : goal.loop-i-init
unfolding lines_of
loop-i-init c = (puts_none _ _ (omega arith) (omega arith), omega arith)

pub put_row-at-requires : goal.put_row-at-requires
put_row-at-requires c =
    let l = c.loop-i in (
      rw c.row_at-r.ensures (row-shown c.args.t _ _ c.args.sheet c.requires.0 l.i c.loop-i-test.true),
      omega (arith, puts-length l.invariant.0, l.invariant.1, c.loop-i-test.true, c.requires.2),
    )

pub loop-i-preserved : goal.loop-i-preserved
unfolding lines_of
loop-i-preserved c =
    let l = c.loop-i in
    let t = c.loop-i-test.true in
    let e = line-is c.args.t _ _ c.args.sheet c.requires.0 l.i t (omega (arith, t, c.requires.1)) c.number_at-number.ensures c.row_at-r.ensures c.tm_number-tm.ensures in
    (rw (add-one l.i) (and_then _ _ l.invariant.0 (puts-as e c.put_row-at.ensures.puts)), omega (arith, c.put_row-at.ensures.upper_bound, l.invariant.1))
