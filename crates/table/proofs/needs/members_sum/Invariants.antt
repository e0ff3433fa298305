-- `table::needs::members_sum` meets its contract. The invariant: the sum is what the TMs and CPs among the accounts passed are deemed, which fits a word.
use mathlib.Core.Path.{◌≡◌}
use Rattle.rows.specs.Rows.{view_by}
use Rattle.rows.specs.Inner.{members_below, view_as}
use Rattle.table.specs.Facts.{seen_book}
use Rattle.table.proofs.needs.members_sum.Given as goal

abbrev pub invariant-loop-i : goal.invariant-loop-i
invariant-loop-i l =
    l.sum ≡ members_below (view_as l.tenths (view_by l.rule (seen_book l.count l.marks l.w))) l.i
