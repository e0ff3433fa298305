-- What a change of one row, and a row more, do to a book's view.
use mathlib.Core.Path.{◌≡◌, refl, sym, ◌∙◌, ap}
use mathlib.Core.Logic.{◌⊎◌}
use Prim.Native.Nat.{ℕ, ◌≤◌, ◌<◌}
use native.Mathlib.Omega.{arith}
use native.Mathlib.Decide.{ℕ_discrete}
use Rattle.rows.specs.declared.Row.{Row}
use Rattle.rows.specs.declared.Book.{Book}
use Rattle.rows.specs.View.{blocked}
use Rattle.rows.specs.Facts.{Shaped}
use Rattle.rows.specs.Rows.{row_at, places, collateral, view, with_row, with_new}
use Rattle.rows.proofs.RowPut.{row_same, row_other, opened-new, opened-below}
use Rattle.book.proofs.NoWorse.{NoWorse}
use Rattle.book.proofs.Opens.{Opened}

-- what holds of the new row and the old, and of any row and itself, holds of all rows of the two books
pub at_all : (P : ℕ → Row → Row → Type 0) (b : Book) (i : ℕ) (r : Row) → i < places b
    → P i r (row_at b i) → ((j : ℕ) → P j (row_at b j) (row_at b j)) → (j : ℕ) → P j (row_at (with_row b i r) j) (row_at b j)
at_all P b i r l p q j = by (ℕ_discrete j i)
  where
    by : Dec (j ≡ i) → P j (row_at (with_row b i r) j) (row_at b j)
    by (yes e) = rw e (rw (row_same b i r l) p)
    by (no e) = rw (row_other b i j r e) (q j)

module _ (b : Book) (i : ℕ) (r : Row) (l : i < places b) (ec : r.sort ≡ (row_at b i).sort) (et : r.tm ≡ (row_at b i).tm) where
  pub same-sort : (j : ℕ) → (row_at (with_row b i r) j).sort ≡ (row_at b j).sort
  same-sort = at_all (λ j x y. x.sort ≡ y.sort) b i r l ec (λ j. refl)

  pub same-tm : (j : ℕ) → (row_at (with_row b i r) j).tm ≡ (row_at b j).tm
  same-tm = at_all (λ j x y. x.tm ≡ y.tm) b i r l et (λ j. refl)

  -- the margin doesn't rise, and collateral stays no lower than blocked
  pub row-no-worse : r.margin ≤ (row_at b i).margin → blocked (view b) i ≤ collateral r → NoWorse (view b) (view (with_row b i r))
  row-no-worse m c = record {
    count = refl;
    sort = same-sort;
    tm = same-tm;
    margin = at_all (λ j x y. x.margin ≤ y.margin) b i r l m (λ j. omega arith);
    collateral = at_all (λ j x y. blocked (view b) j ≤ collateral x) b i r l c (λ j. omega arith);
  }

  -- the shape goes by sort and TM alone
  pub row-shaped : Shaped (view b) → Shaped (view (with_row b i r))
  row-shaped s = record {
    some = s.some;
    top = same-sort 0 ∙ s.top;
    sorts = λ j p q. rw (same-sort j) (s.sorts j p q);
    tms = λ j q e. rw (same-tm j) (rw (same-sort (row_at b j).tm) (s.tms j q (sym (same-sort j) ∙ e)));
  }

-- an opening, where the table has room
module _ (b : Book) (r : Row) (room : b.count < places b) where
  pub row_opened : r.margin ≡ 0 → (r.sort ≡ 1) ⊎ ((r.sort ≡ 2) ⊎ (r.sort ≡ 3))
      → (r.sort ≡ 2 → (r.tm < b.count) × ((row_at b r.tm).sort ≡ 1)) → Opened (view b) (view (with_new b r))
  row_opened m k t = record {
    count = refl;
    sort = λ i q. ap (λ x. x.sort) (opened-below b r room i q);
    tm = λ i q. ap (λ x. x.tm) (opened-below b r room i q);
    margin = λ i q. ap (λ x. x.margin) (opened-below b r room i q);
    collateral = λ i q. ap collateral (opened-below b r room i q);
    no-margin = rw (opened-new b r room) m;
    new-sort = rw (opened-new b r room) k;
    its-tm = rw (opened-new b r room) t;
  }
