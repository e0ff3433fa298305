-- What can be said of the book that a day starts from, and of where the one after it goes.
use Rattle.std.specs.Prelude.{Bool, true, false, not, ◌&&◌, List, [], ◌∷◌, ◌≡◌, ℕ, length}
use Rattle.sums.specs.Choice.{pick}
use Rattle.numbers.specs.Bytes.{Bytes}
use Rattle.rows.specs.Rows.{fresh_book}
use Rattle.table.specs.declared.Table.{Table}
use Rattle.table.specs.Words.{turned}
use Rattle.bookfile.specs.declared.Held.{Held}
use Rattle.bookfile.specs.Reading.{read_of}
use Rattle.bookfile.specs.Written.{written_of}
use Rattle.streams.specs.Words.{is_there, same_bytes}
use Rattle.feed.specs.declared.books.From.{From}
use Rattle.feed.specs.declared.books.To.{To}

-- of count words the one at this place names a file: it is there, and it isn't `-`
unfoldable pub names_file : ℕ → ℕ → List ℕ → Bool
names_file count word name = is_there count word && not (same_bytes name (45 ∷ []))

-- where no file is named, or `-`: "over a fresh book"
unfoldable pub fresh_from : From
fresh_from = record { named = false; failed = false; table = turned fresh_book }

-- the book that a file's bytes are; where they are none, no day is carried out
unfoldable pub from_held : Held → From
from_held h = record { named = true; failed = not h.is_book; table = h.table }

-- No contract can say which bytes a file has. This one says that there are bytes, read as a book file, of which f is the book; a file that can't be read counts as one without a byte.
pub record FileCame (f : From) : Type 0 where
  pub file : List ℕ
  pub bytes : Bytes file
  pub is : f ≡ from_held (read_of file)

-- Nor can it say how many words there are, and which bytes they have. This one says that there are words by which a file was named, or wasn't, and bytes of which f is then the book; it is
-- the fresh one where none was named.
pub record CameFrom (word : ℕ) (f : From) : Type 0 where
  pub count : ℕ
  pub name : List ℕ
  pub named : f.named ≡ names_file count word name
  pub file : List ℕ
  pub bytes : Bytes file
  pub is : f ≡ pick f.named (from_held (read_of file)) fresh_from

-- a file was named, and all of the book's written form went there, or it failed
unfoldable pub went_to : Bool → Table → To
went_to failed t = record { named = true; failed = failed; count = pick failed 0 (length (written_of t)) }

-- none was named: nothing went anywhere, and nothing failed
unfoldable pub nowhere : To
nowhere = record { named = false; failed = false; count = 0 }

-- there is a count of words by which a file was named, or wasn't
pub record BookLeft (word : ℕ) (t : Table) (x : To) : Type 0 where
  pub count : ℕ
  pub named : x.named ≡ is_there count word
  pub is : x ≡ pick x.named (went_to x.failed t) nowhere
