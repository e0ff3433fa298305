-- `table::needs::needs_afresh` meets its contract. The invariant: the places passed have the need to keep, the others what is deemed under their account.
use mathlib.Core.Path.{◌≡◌}
use Prim.Native.Nat.{ℕ, ◌≤◌, ◌<◌}
use lib.ListN.{length, get_or}
use Rattle.rows.specs.Rows.{view_by}
use Rattle.rows.specs.DeemedUnder.{DeemedUnder}
use Rattle.rows.specs.KeptNeeds.{kept_need}
use Rattle.table.specs.Facts.{seen_book}
use Rattle.table.proofs.needs.needs_afresh.Given as goal

abbrev pub invariant-loop-i : goal.invariant-loop-i
invariant-loop-i l =
    DeemedUnder (view_by l.rule (seen_book l.count l.marks l.w)) l.initial.needs × (length l.needs ≡ 256)
    × ((j : ℕ) → j < l.i → get_or l.needs j 0 ≡ kept_need (view_by l.rule (seen_book l.count l.marks l.w)) j) × ((j : ℕ) → l.i ≤ j → get_or l.needs j 0 ≡ get_or l.initial.needs j 0)
