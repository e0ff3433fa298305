use Rattle.std.proofs.Common.{◌+◌, ◌*◌, ◌≤◌}
use Rattle.table.specs.Words.{turned_back}
use Rattle.text.specs.Inner.{Puts}
use Rattle.report.specs.Reports.{lines_of}
use Rattle.report.specs.Inner.{line_of}
use Rattle.report.proofs.listing.put_rows.Given as goal

abbrev pub invariant-loop-i : goal.invariant-loop-i
invariant-loop-i l = Puts l.fn.room l.start (lines_of (line_of l.sheet (turned_back l.t)) l.i) l.room l.at × (l.at ≤ l.start + 219 * l.i)
