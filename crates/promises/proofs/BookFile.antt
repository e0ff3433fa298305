-- The book file: a book's written form and the book are one to one. A value of the type has arrays of their lengths and words that fit (`bookfile.Facts.Fits`); whether it is sound doesn't matter.
use mathlib.Core.Bool.{Bool, true}
use mathlib.Core.List.{List}
use mathlib.Core.Path.{◌≡◌, ap}
use Prim.Native.Nat.{ℕ}
use lib.ListN.{length}
use Rattle.numbers.specs.Bytes.{Bytes}
use Rattle.table.specs.declared.Table.{Table}
use Rattle.table.specs.Words.{turned_back}
use Rattle.book.specs.Facts.{Numbered, Sound}
use Rattle.bookfile.specs.declared.Held.{Held}
use Rattle.bookfile.specs.Written.{size, written_of, wrote_of, room_after}
use Rattle.bookfile.specs.Reading.{is_book, book_in, read_of}
use Rattle.bookfile.specs.Facts.{Fits, by_places, is_two, is_one, written_as_one}
use Rattle.bookfile.proofs.RoundTrip.{read-written, written_read, written_once, written-long, room-reads}
use Rattle.bookfile.proofs.VersionOne.{one-read, one-is-book, one_written, one-sound, one-sound-alone}
use Rattle.feed.specs.Fed.{whole_day}

-- Reading what was written gives the book back.
pub the-written-book-reads-back : (t : Table) → Fits t → read_of (written_of t) ≡ record { is_book = true; table = t }
the-written-book-reads-back = read-written

-- Bytes that read as a book of version 2 are that book's written form.
pub what-reads-was-written : (file : List ℕ) → Bytes file → is_two file ≡ true → written_of (book_in file) ≡ file
what-reads-was-written = written_read

-- Two books with one written form are the same.
pub one-book-for-one-file : (t u : Table) → Fits t → Fits u → written_of t ≡ written_of u → t ≡ u
one-book-for-one-file = written_once

-- The written form has 24,332 bytes, each of them a byte.
pub a-file-is-as-long-as-it-says : (t : Table) → Fits t → (length (written_of t) ≡ size) × Bytes (written_of t)
a-file-is-as-long-as-it-says = written-long

-- A room that the writer answered with 0 reads back as the book.
pub the-lent-room-reads-back : (t : Table) (room : List ℕ) → Fits t → wrote_of room ≡ 0 → read_of (room_after t room) ≡ record { is_book = true; table = t }
the-lent-room-reads-back = room-reads

-- K11, a book file of version 1: it reads as the book that it was written from, with numbers equal to places below the count, 0 from there on, and the count as the next
-- number, ..
pub version-1-reads-back-by-places : (t : Table) → Fits t → read_of (written_as_one t) ≡ record { is_book = true; table = by_places t }
version-1-reads-back-by-places = one-read

-- .. whatever its bytes: they are what version 1 wrote of the book that they read as, which has such numbers; ..
pub version-1-bytes-are-such-a-book : (file : List ℕ) → Bytes file → is_one file ≡ true
    → (is_book file ≡ true) × (book_in file ≡ by_places (book_in file)) × (written_as_one (book_in file) ≡ file)
version-1-bytes-are-such-a-book file y h = ((one-is-book file h).0, (one-is-book file h).1, one_written file h y)

-- .. and a book with such numbers is sound exactly where it is with any other numbers that are a sound book's.
pub sound-where-it-was : (t : Table) → Numbered t.count t.numbers t.next
    → (Sound (turned_back t) → Sound (turned_back (by_places t))) × (Sound (turned_back (by_places t)) → Sound (turned_back t))
sound-where-it-was t n = (one-sound t, one-sound-alone t n)

-- Over the night: a day over the book in the file that was written is the day over the book.
pub a-day-over-the-file : (printing : Bool) (t : Table) → Fits t → (x : List ℕ) → whole_day printing (turned_back (read_of (written_of t)).table) x ≡ whole_day printing (turned_back t) x
a-day-over-the-file printing t f x = ap (λ (h : Held). whole_day printing (turned_back h.table) x) (read-written t f)
