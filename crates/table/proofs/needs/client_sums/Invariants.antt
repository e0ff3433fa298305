-- `table::needs::client_sums` meets its contract. The invariant: each place has what its clients among the accounts passed are deemed, which fits a word.
use mathlib.Core.Path.{◌≡◌}
use Prim.Native.Nat.{ℕ, ◌<◌}
use lib.ListN.{length, get_or}
use Rattle.rows.specs.Rows.{view_by}
use Rattle.rows.specs.Inner.{clients_below, view_as}
use Rattle.table.specs.Facts.{seen_book}
use Rattle.table.proofs.needs.client_sums.Given as goal

abbrev pub invariant-loop-i : goal.invariant-loop-i
invariant-loop-i l =
    (length l.under ≡ 256) × ((t : ℕ) → t < 256 → get_or l.under t 0 ≡ clients_below (view_as l.tenths (view_by l.rule (seen_book l.count l.marks l.w))) t l.i)
