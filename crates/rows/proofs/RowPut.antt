-- What a book's rows are after one is put anew, and after one more is opened.
use mathlib.Core.Path.{◌≡◌}
use Prim.Native.Nat.{ℕ, ◌<◌}
use native.Mathlib.Omega.{arith}
use lib.ListN.{length-set, get_or-eq_default}
use lib.Seq.{get_or-set_same, get_or-set_other}
use Prim.Native.Nat.{◌≤◌}
use Rattle.rows.specs.declared.Row.{Row}
use Rattle.rows.specs.declared.Book.{Book}
use Rattle.rows.specs.Rows.{no_row, row_at, places, with_row, with_new}

-- a place that the table doesn't have
pub row-far : (b : Book) (i : ℕ) → places b ≤ i → row_at b i ≡ no_row
row-far b i l = get_or-eq_default b.rows no_row l

pub row_same : (b : Book) (i : ℕ) (r : Row) → i < places b → row_at (with_row b i r) i ≡ r
row_same b i r l = get_or-set_same b.rows i r no_row l

pub row_other : (b : Book) (i j : ℕ) (r : Row) → (j ≡ i → ⊥) → row_at (with_row b i r) j ≡ row_at b j
row_other b i j r ne = get_or-set_other b.rows i j r no_row ne

pub row-places : (b : Book) (i : ℕ) (r : Row) → places (with_row b i r) ≡ places b
row-places b i r = length-set b.rows i r

module _ (b : Book) (r : Row) where
  pub new-places : places (with_new b r) ≡ places b
  new-places = length-set b.rows b.count r

  -- where the table has room
  module _ (room : b.count < places b) where
    pub opened-new : row_at (with_new b r) b.count ≡ r
    opened-new = get_or-set_same b.rows b.count r no_row room

    pub opened-below : (i : ℕ) → i < b.count → row_at (with_new b r) i ≡ row_at b i
    opened-below i q = get_or-set_other b.rows b.count i r no_row (λ e. omega arith)

    pub opened-above : (i : ℕ) → b.count < i → row_at (with_new b r) i ≡ row_at b i
    opened-above i q = get_or-set_other b.rows b.count i r no_row (λ e. omega arith)
