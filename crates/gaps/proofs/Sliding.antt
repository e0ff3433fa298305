-- A row taken out, and put at another place.
use mathlib.Core.Bool.{true, false}
use mathlib.Core.List.{List}
use mathlib.Core.Path.{◌≡◌, ap, ◌∙◌}
use Prim.Native.Nat.{ℕ, ◌<◌}
use lib.ListN.{get_or, set}
use Rattle.sums.specs.Choice.{pick}
use Rattle.rows.specs.declared.Row.{Row}
use Rattle.rows.specs.Rows.{no_row}
use Rattle.table.specs.declared.Marks.{Marks}
use Rattle.table.specs.Words.{row_in, rows_of}
use Rattle.table.specs.Facts.{Sized}
use Rattle.table.specs.Inner.{put_marks, put_row, Anew}
use Rattle.table.proofs.RowsPut.{row_put}
use Rattle.gaps.specs.Gaps.{with_tm}
use Rattle.gaps.specs.Inner.{RowSlid}

-- what `put_row` leaves
pub record RowPut (m : Marks) (w : List ℕ) (i : ℕ) (r : Row) (n : Marks) (u : List ℕ) : Type 0 where
  pub marks_after : n ≡ put_marks m i r
  pub w_after : u ≡ put_row w i r

put-anew : {m n : Marks} {w u : List ℕ} {i : ℕ} {r : Row} → Sized m w → i < 256 → RowPut m w i r n u → Anew m w i r n u
put-anew {m} {n} {w} {u} {i} {r} s l p = rw (p.marks_after, p.w_after) (row_put m w i s l r)

module _ {m : Marks} {w : List ℕ} {i : ℕ} (s : Sized m w) (li : i < 256)
    {row blank : Row} (e : row ≡ row_in m w i) (z : blank ≡ no_row) {n : Marks} {u : List ℕ} (p : RowPut m w i blank n u) where
  out : Anew m w i blank n u
  out = put-anew s li p

  taken : rows_of n u ≡ set (rows_of m w) i no_row
  taken = out.rows ∙ ap (set (rows_of m w) i) z

  its-live : row.live ≡ get_or m.live i false
  its-live = ap (λ r. r.live) e

  pub slid-off : {to : List ℕ} {k : ℕ} → row.live ≡ false → RowSlid m w to k i row.live n u
  unfolding pick
  slid-off l = record { size = out.size; kept = its-live; rows = rw l taken }

  pub slid-on : {to : List ℕ} {k : ℕ} → k < 256 → row.live ≡ true → {new : Row} → new ≡ with_tm row (get_or to row.tm 0)
      → {n' : Marks} {u' : List ℕ} → RowPut n u k new n' u' → RowSlid m w to k i row.live n' u'
  unfolding pick
  slid-on {to} {k} lk l {new} q g =
      let h = put-anew out.size lk g in
      record {
        size = h.size;
        kept = its-live;
        rows = rw l (h.rows ∙ ap (λ x. set x k new) taken ∙ ap (set (set (rows_of m w) i no_row) k) (rw (q, e)));
      }
