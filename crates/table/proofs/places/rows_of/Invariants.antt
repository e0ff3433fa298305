-- `table::places::rows_of` meets its contract. The invariant: the rows passed are gathered.
use mathlib.Core.Path.{◌≡◌}
use Prim.Native.Nat.{ℕ, ◌<◌}
use lib.ListN.{length, get_or}
use Rattle.rows.specs.Rows.{no_row}
use Rattle.table.specs.Words.{row_in}
use Rattle.table.proofs.places.rows_of.Given as goal

abbrev pub invariant-loop-i : goal.invariant-loop-i
invariant-loop-i l =
    (length l.table ≡ 256) × ((a : ℕ) → a < l.i → get_or l.table a no_row ≡ row_in l.marks l.w a)
