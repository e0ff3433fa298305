-- `book::blocking::put_needs` meets its contract. The invariant: the places passed have their accounts' needs.
use mathlib.Core.Path.{◌≡◌}
use Prim.Native.Nat.{ℕ, ◌<◌}
use lib.ListN.{length, get_or}
use Rattle.rows.specs.View.{need}
use Rattle.rows.specs.Rows.{view}
use Rattle.table.specs.Facts.{seen_book}
use Rattle.book.proofs.blocking.put_needs.Given as goal

-- the room's first i places are put
abbrev pub invariant-loop-i : goal.invariant-loop-i
invariant-loop-i l =
    (length l.room ≡ l.count) × ((j : ℕ) → j < l.i → get_or l.room j 0 ≡ need (view (seen_book l.count l.marks l.w)) j)
