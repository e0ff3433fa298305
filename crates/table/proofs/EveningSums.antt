-- "The evening sums read one amount of all accounts.": they are the old order's, and fit a word.
use mathlib.Core.List.{List}
use mathlib.Core.Path.{◌≡◌, sym}
use Prim.Native.Nat.{ℕ, ◌≤◌, ◌<◌}
use native.Mathlib.Omega.{arith}
use lib.ListN.{get_or}
use Rattle.sums.specs.Sum.{sum}
use Rattle.sums.proofs.Sums.{sum-eq}
use Rattle.rows.specs.declared.Row.{Row}
use Rattle.rows.specs.Rows.{no_row, ceiling}
use Rattle.rows.specs.Facts.{InRange}
use Rattle.table.specs.declared.Marks.{Marks}
use Rattle.table.specs.Words.{word_at, amount_of, rows_of}
use Rattle.table.specs.Inner.{amount_sum}
use Rattle.table.specs.Facts.{Capped}
use Rattle.table.proofs.Gathered.{each-of-ten, word_in}

pub sum-by-rows : (m : Marks) (w : List ℕ) (k n : ℕ) → k < 10 → n ≤ 256 → amount_sum w k n ≡ sum n (λ i. amount_of (get_or (rows_of m w) i no_row) k)
unfolding amount_sum
sum-by-rows m w k n lk ln = sum-eq n (word_at w k) (λ i. amount_of (get_or (rows_of m w) i no_row) k) (λ i l. sym (word_in m w k i lk (omega arith)))

-- no amount of a row in its ranges passes the ceiling
pub amount-most : (r : Row) → InRange r → (k : ℕ) → k < 10 → amount_of r k ≤ ceiling
amount-most r h = each-of-ten (λ k. amount_of r k ≤ ceiling) (omega arith) (omega arith) (omega arith) (omega arith) (omega arith) (omega arith) (omega arith) (omega arith) (omega arith) (omega arith)

pub capped-in : (m : Marks) (w : List ℕ) (k n : ℕ) → k < 10 → n ≤ 256 → ((i : ℕ) → i < n → InRange (get_or (rows_of m w) i no_row)) → Capped w k n
capped-in m w k n lk ln h = record { each = λ i l. omega (arith, word_in m w k i lk (omega arith), amount-most (get_or (rows_of m w) i no_row) (h i l) k lk) }
