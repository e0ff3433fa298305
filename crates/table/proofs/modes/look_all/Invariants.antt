-- `table::modes::look_all` meets its contract. The invariant: the accounts passed are looked at, and no other place is on (`Passed`).
use Rattle.rows.specs.Rows.{view}
use Rattle.rows.proofs.Looks.{Passed}
use Rattle.table.specs.Facts.{seen_book}
use Rattle.table.proofs.modes.look_all.Given as goal

abbrev pub invariant-loop-i : goal.invariant-loop-i
invariant-loop-i l =
    Passed (view (seen_book l.count l.marks l.w)) l.modes l.after l.i
