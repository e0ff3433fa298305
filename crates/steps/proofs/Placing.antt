-- What a look needs of the words of a sound book: amounts in range, TMs with a place, sums that fit.
use Rattle.std.proofs.Common.{◌≡◌, ℕ, ◌<◌, Bool, List, ap, arith}
use native.Mathlib.Decide.{ℕ_discrete, dec_lt}
use Rattle.rows.specs.declared.Book.{Book}
use Rattle.rows.specs.Rows.{row_at}
use Rattle.table.specs.declared.Marks.{Marks}
use Rattle.table.specs.Words.{book_from}
use Rattle.table.specs.Facts.{Sized}
use Rattle.table.proofs.Gathered.{row-in}
use Rattle.book.specs.Facts.{SoundRows}
use Rattle.book.proofs.SoundRanges.{rows-ranges}
use Rattle.steps.specs.Looks.{Placed}

-- the TM word of every row of a sound book is a place
tm-low : (b : Book) → SoundRows b → (j : ℕ) → (row_at b j).tm < 256
tm-low b s j = by (dec_lt j b.count) (ℕ_discrete (row_at b j).sort 2)
  where
    by : Dec (j < b.count) → Dec ((row_at b j).sort ≡ 2) → (row_at b j).tm < 256
    by (yes l) (yes c) = omega (arith, (s.shaped.tms j l c).0, s.most)
    by (yes l) (no c) = omega (arith, s.no-tm j l c)
    by (no l) d = omega (arith, ap (λ r. r.tm) (s.blank j (omega arith)))

pub sound-placed : (count serial : ℕ) (m : Marks) (w : List ℕ) (modes : List Bool) (needs : List ℕ) (next : ℕ) (numbers : List ℕ) → Sized m w → SoundRows (book_from count serial m w modes needs next numbers) → Placed m w
sound-placed count serial m w modes needs next numbers z s =
    let b = book_from count serial m w modes needs next numbers in
    record {
      size = z;
      ranges = λ j l. rw (row-in m w j l) at (rows-ranges b s j);
      tms = λ j l. omega (arith, ap (λ r. r.tm) (row-in m w j l), tm-low b s j);
    }
