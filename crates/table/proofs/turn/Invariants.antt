-- `table::turn` meets its contract. The invariant: gathered from the words, the rows passed are the book's.
use mathlib.Core.Path.{◌≡◌}
use Prim.Native.Nat.{ℕ, ◌<◌}
use lib.ListN.{get_or}
use Rattle.rows.specs.Rows.{no_row, row_at}
use Rattle.table.specs.Words.{rows_of}
use Rattle.table.specs.Facts.{Sized}
use Rattle.table.proofs.turn.Given as goal

abbrev pub invariant-loop-i : goal.invariant-loop-i
invariant-loop-i l =
    Sized l.marks l.amounts × ((a : ℕ) → a < l.i → get_or (rows_of l.marks l.amounts) a no_row ≡ row_at l.b a)
