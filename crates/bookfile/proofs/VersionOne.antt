-- Version 1 is still read: the book that it was, with places for numbers and the count as its next number.
use mathlib.Core.Bool.{true}
use mathlib.Core.List.{List}
use mathlib.Core.Path.{◌≡◌, refl, ap, ◌∙◌}
use Prim.Native.Nat.{ℕ, ◌≤◌}
use Rattle.numbers.specs.Bytes.{Bytes}
use Rattle.table.specs.declared.Table.{Table}
use Rattle.table.specs.Words.{turned_back}
use Rattle.book.specs.Sound.{numbers_sound}
use Rattle.book.specs.Facts.{Numbered, Sound}
use Rattle.book.proofs.PlaceNumbers.{places-sound, renumbered-sound, by-places-sound}
use Rattle.bookfile.specs.declared.Version.TheVariants.{One}
use Rattle.bookfile.specs.Written.{written_by}
use Rattle.bookfile.specs.Reading.{is_of, is_book, book_by, book_in, read_of}
use Rattle.bookfile.specs.Facts.{Fits, by_places}
use Rattle.bookfile.proofs.Told.{is-book, book-is, read_by}
use Rattle.bookfile.proofs.WrittenIn.{written_is, book-in-written}
use Rattle.bookfile.proofs.ReadBack.{book-back}

-- Reading what version 1 wrote of a book gives it back with numbers equal to places below the count and 0 from there on, next number the count.
pub one-read : (t : Table) → Fits t → read_of (written_by One t) ≡ record { is_book = true; table = by_places t }
one-read t f = read_by (written_by One t) One (written_is One t) ∙ ap (λ (u : Table). record { is_book = true; table = u }) (book-in-written One t f)

module _ (file : List ℕ) (h : is_of One file ≡ true) where
  by-places : book_by One file ≡ by_places (book_by One file)
  unfolding book_by
  by-places = refl

  -- Bytes of version 1 are a book, which has such numbers.
  pub one-is-book : (is_book file ≡ true) × (book_in file ≡ by_places (book_in file))
  one-is-book = (is-book file One h, rw (book-is file One h) by-places)

  -- They are what version 1 wrote of that book.
  pub one_written : Bytes file → written_by One (book_in file) ≡ file
  one_written y = ap (written_by One) (book-is file One h) ∙ book-back One file h y

module _ (t : Table) where
  -- The numbers of such a book are a sound book's wherever its count is.
  pub one-numbers-sound : 1 ≤ t.count → t.count ≤ 256 → numbers_sound (by_places t).count (by_places t).next (by_places t).numbers ≡ true
  one-numbers-sound some most = places-sound t.count some most

  -- So it is sound where it was, whichever sound numbers it had.
  pub one-sound : Sound (turned_back t) → Sound (turned_back (by_places t))
  one-sound s = by-places-sound (turned_back t) s

  pub one-sound-alone : Numbered t.count t.numbers t.next → Sound (turned_back (by_places t)) → Sound (turned_back t)
  one-sound-alone n s = renumbered-sound (turned_back (by_places t)) t.next t.numbers n s
