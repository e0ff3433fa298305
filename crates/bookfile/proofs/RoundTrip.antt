-- The round trip: a book that is written reads back, and bytes that read as a book are its written form.
use mathlib.Core.Bool.{true}
use mathlib.Core.List.{List}
use mathlib.Core.Path.{◌≡◌, sym, ap, ◌∙◌}
use Prim.Native.Nat.{ℕ}
use lib.ListN.{length}
use Rattle.numbers.specs.Bytes.{Bytes}
use Rattle.table.specs.declared.Table.{Table}
use Rattle.bookfile.specs.declared.Version.TheVariants.{Two}
use Rattle.bookfile.specs.Written.{size, written_of, wrote_of, room_after}
use Rattle.bookfile.specs.Reading.{is_of, book_by, book_in, read_of}
use Rattle.bookfile.specs.Facts.{Fits}
use Rattle.bookfile.proofs.Told.{book-is, read_by}
use Rattle.bookfile.proofs.Parts.{length-written}
use Rattle.bookfile.proofs.Wrote.{room-wrote}
use Rattle.bookfile.proofs.WrittenIn.{written_is, book-in-written}
use Rattle.bookfile.proofs.ReadBack.{book-back}
use Rattle.bookfile.proofs.AllBytes.{bytes-written}

-- ---- reading what was written

-- Reading what was written gives the book back, for every value of the type, sound or not.
pub read-written : (t : Table) → Fits t → read_of (written_of t) ≡ record { is_book = true; table = t }
read-written t f = read_by (written_of t) Two (written_is Two t) ∙ ap (λ (u : Table). record { is_book = true; table = u }) (book-in-written Two t f)

-- Two books with one written form are the same.
pub written_once : (t u : Table) → Fits t → Fits u → written_of t ≡ written_of u → t ≡ u
written_once t u f g e = sym (book-in-written Two t f) ∙ ap (book_by Two) e ∙ book-in-written Two u g

-- The written form has 24,332 bytes, each of them a byte.
pub written-long : (t : Table) → Fits t → (length (written_of t) ≡ size) × Bytes (written_of t)
written-long t f = (length-written Two t, bytes-written t f)

-- ---- what reads as a book was written so

-- Bytes of version 2 that read as a book are that book's written form.
pub written_read : (file : List ℕ) → Bytes file → is_of Two file ≡ true → written_of (book_in file) ≡ file
written_read file y h = ap written_of (book-is file Two h) ∙ book-back Two file h y

-- ---- the writer's room

-- A room that the writer answered with 0 reads back as the book.
pub room-reads : (t : Table) (room : List ℕ) → Fits t → wrote_of room ≡ 0 → read_of (room_after t room) ≡ record { is_book = true; table = t }
room-reads t room f e = ap read_of (room-wrote t room e) ∙ read-written t f
