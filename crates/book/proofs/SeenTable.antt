-- What needs see of a table, by its sorts, TMs and words, is what they see of its book.
use mathlib.Core.Path.{◌≡◌}
use Prim.Native.Nat.{ℕ}
use Rattle.rows.specs.declared.Rule.{Rule}
use Rattle.rows.specs.declared.Book.{Book}
use Rattle.rows.specs.Rows.{row_at, account_by, view_by}
use Rattle.rows.specs.Inner.{Ranged}
use Rattle.table.specs.declared.Table.{Table}
use Rattle.table.specs.Words.{turned_back}
use Rattle.table.specs.Facts.{seen_book}
use Rattle.table.proofs.Seen.{seen-view-by, seen-account, seen-ranged}

module _ (t : Table) where
  -- the table as needs see it
  abbrev seen : Book
  seen = seen_book t.count t.marks t.amounts

  -- all of its accounts, by a rule
  pub seen-by : (rule : Rule) → view_by rule seen ≡ view_by rule (turned_back t)
  seen-by = seen-view-by t.count t.serial t.marks t.amounts t.modes t.needs t.next t.numbers

  -- one of them
  pub seen-at : (rule : Rule) (i : ℕ) → account_by rule (row_at seen i) ≡ account_by rule (row_at (turned_back t) i)
  seen-at = seen-account t.count t.serial t.marks t.amounts t.modes t.needs t.next t.numbers

  -- no sum of it passes a word where none of the book's does
  pub seen-within : Ranged (turned_back t) → Ranged seen
  seen-within = seen-ranged t.count t.serial t.marks t.amounts t.modes t.needs t.next t.numbers
