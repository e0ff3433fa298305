-- include/loft.h: bytes that are lent as a book, and the two refusals that come first.
use Rattle.std.specs.Prelude.{Bool, not, ◌&&◌, List, [], ◌∷◌, ℕ}
use Rattle.sums.specs.Table.{Line, ◌when◌, first}
use Rattle.rows.specs.declared.Book.{Book}
use Rattle.table.specs.Words.{turned, turned_back}
use Rattle.book.specs.Sound.{sound_b}
use Rattle.bookfile.specs.Facts.{is_two}
use Rattle.bookfile.specs.Reading.{book_in}
use Rattle.bookfile.specs.Written.{written_of}

-- "A book is its written form of version 2": the book that bytes are, where they are one (`is_two`)
abbrev pub book_of : List ℕ → Book
book_of bytes = turned_back (book_in bytes)

-- the bytes of a book
abbrev pub bytes_of : Book → List ℕ
bytes_of b = written_of (turned b)

-- "Whether the bytes are a book of version 2 that is sound."
abbrev pub sound_in : List ℕ → Bool
sound_in bytes = is_two bytes && sound_b (book_of bytes)

-- "1 the bytes are no book of version 2, or the book in them isn't sound"; "15 a list isn't as long as it says here"; "1 comes first, then 15": of a
-- book's bytes, and whether the lists beside it are as long as they should be
abbrev pub lent_refusals : List ℕ → Bool → List Line
lent_refusals bytes fit = (1 when not (sound_in bytes)) ∷ (15 when not fit) ∷ []

-- the first that applies, or 0
unfoldable pub lent_refusal : List ℕ → Bool → ℕ
lent_refusal bytes fit = first (lent_refusals bytes fit)
