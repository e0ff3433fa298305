-- `gaps::slide_row` meets its contract.
use mathlib.Core.Path.{ap}
use native.Mathlib.Omega.{arith}
use Rattle.gaps.proofs.Sliding.{slid-off, slid-on}
use Rattle.gaps.proofs.slide_row.Goals as goal

pub bounds-to-row : goal.bounds-to-row
bounds-to-row c = omega (arith, ap (λ r. r.tm) c.row_at-row.ensures)

pub returns-then-row : goal.returns-then-row
returns-then-row c =
    let a = c.put_row.ensures in
    let b = c.put_row-then-row.ensures in
    slid-on c.requires.0 c.requires.1 c.row_at-row.ensures c.no_row.ensures (record { marks_after = a.marks_after; w_after = a.w_after })
    c.requires.2 c.if-row.true c.with_tm.ensures (record { marks_after = b.marks_after; w_after = b.w_after })

pub returns-else-row : goal.returns-else-row
returns-else-row c =
    let a = c.put_row.ensures in
    slid-off c.requires.0 c.requires.1 c.row_at-row.ensures c.no_row.ensures (record { marks_after = a.marks_after; w_after = a.w_after }) c.if-row.false
