-- `table::places::rows_of` meets its contract. The invariant: the rows passed are gathered.
use mathlib.Core.Path.{refl, sym, ◌∙◌}
use native.Mathlib.Omega.{arith}
use lib.ListN.{length-set}
use Rattle.sums.proofs.Lists.{list-is, filled-step}
use Rattle.rows.specs.Rows.{no_row}
use Rattle.table.specs.Words.{row_in, rows_of}
use Rattle.table.proofs.places.rows_of.Goals as goal

pub loop-i-init : goal.loop-i-init
loop-i-init c = (refl, λ a l. absurd (omega arith))

pub loop-i-preserved : goal.loop-i-preserved
loop-i-preserved c =
    let a = c.args in
    let l = c.loop-i in (
      length-set l.table l.i c.row_at.result ∙ l.invariant.0,
      filled-step (row_in a.marks.now a.w.now) l.table no_row l.i c.row_at.result (omega (arith, l.invariant.0)) l.invariant.1 c.row_at.ensures,
    )

pub returns : goal.returns
unfolding rows_of
returns c =
    let a = c.args in
    let l = c.loop-i in
    sym (list-is (row_in a.marks.now a.w.now) 256 no_row l.table l.invariant.0 (λ j m. l.invariant.1 j (omega arith)))
