-- Needs look neither at the serial, at who is live or in the mode, nor at what is kept: what they see of the words is what they see of the book.
use mathlib.Core.Bool.{Bool}
use mathlib.Core.List.{List, []}
use mathlib.Core.Path.{◌≡◌, ap, sym, ◌∙◌}
use Prim.Native.Nat.{ℕ, ◌<◌}
use native.Mathlib.Omega.{arith}
use native.Mathlib.Decide.{dec_lt}
use Rattle.rows.specs.declared.Rule.{Rule}
use Rattle.rows.specs.declared.Rule.TheVariants.{New}
use Rattle.rows.specs.declared.Book.{Book}
use Rattle.rows.specs.Rows.{row_at, account_by, view_by, view}
use Rattle.rows.specs.DeemedUnder.{account_at}
use Rattle.rows.specs.Inner.{Ranged}
use Rattle.rows.proofs.RowPut.{row-far}
use Rattle.table.specs.declared.Marks.{Marks}
use Rattle.table.specs.Words.{marks_from, book_from}
use Rattle.table.specs.Facts.{seen_book}
use Rattle.table.proofs.Gathered.{rows-length, row-in}

module _ (count serial : ℕ) (m : Marks) (w : List ℕ) (modes : List Bool) (needs : List ℕ) (next : ℕ) (numbers : List ℕ) where
  abbrev seen : Book
  seen = seen_book count m w

  abbrev whole : Book
  whole = book_from count serial m w modes needs next numbers

  abbrev marks : Marks
  marks = marks_from m.sort [] m.tm

  pub seen-view-by : (rule : Rule) → view_by rule seen ≡ view_by rule whole
  seen-view-by rule = λ j. record {
    count = count;
    sort = λ i. (alike i (dec_lt i 256) j).sort;
    tm = λ i. (alike i (dec_lt i 256) j).tm;
    collateral = λ i. (alike i (dec_lt i 256) j).collateral;
    margin = λ i. (alike i (dec_lt i 256) j).margin;
  }
    where
      alike : (i : ℕ) → Dec (i < 256) → account_by rule (row_at seen i) ≡ account_by rule (row_at whole i)
      alike i (yes l) = ap (account_by rule) (row-in marks w i l) ∙ sym (ap (account_by rule) (row-in m w i l))
      alike i (no l) =
          ap (account_by rule) (row-far seen i (omega (arith, rows-length marks w)) ∙ sym (row-far whole i (omega (arith, rows-length m w))))

  pub seen-view : view seen ≡ view whole
  seen-view = seen-view-by New

  pub seen-account : (rule : Rule) (i : ℕ) → account_by rule (row_at seen i) ≡ account_by rule (row_at whole i)
  seen-account rule i = ap (λ v. account_at v i) (seen-view-by rule)

  pub seen-ranged : Ranged whole → Ranged seen
  seen-ranged h = record {
    table = rows-length marks w;
    most = h.most;
    ranges = λ i l.
        let most = h.most in
        let below : i < 256 = omega arith in
        let r = rw (row-in m w i below) at (h.ranges i l) in
        rw (row-in marks w i below) (record { received = r.received; allocated = r.allocated; pledged = r.pledged; margin = r.margin });
  }
