-- What can be said of a day file that is read from standard input.
use Rattle.std.specs.Prelude.{Bool, true, false, ◌&&◌, List, [], ◌≡◌, ℕ, length}
use Rattle.sums.specs.Choice.{pick}
use Rattle.numbers.specs.Bytes.{Bytes}
use Rattle.rows.specs.declared.Book.{Book}
use Rattle.rows.specs.Rows.{fresh_book}
use Rattle.table.specs.Words.{turned}
use Rattle.book.specs.Sound.{sound_b}
use Rattle.records.specs.declared.Closing.TheVariants.{End}
use Rattle.records.specs.Runs.{Ran, ran_of}
use Rattle.lines.specs.Texts.{text_of}
use Rattle.telling.specs.Told.{told_of}
use Rattle.telling.specs.Explained.{line_told}
use Rattle.feed.specs.declared.Day.{Day}

-- how many bytes are printed: where that is asked for "a line per record" that was read, of an unsound book none
unfoldable pub printed_of : Bool → Book → List ℕ → ℕ
printed_of printing b s = length (pick printing (text_of b s 1_000_000) [])

-- a run's results without its place, and the bytes printed
abbrev pub day_of : ℕ → Ran → Day
day_of printed r = record { table = turned r.book; closing = r.closing; read = r.read; done = r.done; printed = printed; failed = false }

-- "The program reads a day file .. over a fresh book", or over the one that it is handed over; "It stops at the end, at a cut or at a million records"; an unsound book is
-- given back with `1`
unfoldable pub whole_day : Bool → Book → List ℕ → Day
whole_day printing b s = day_of (printed_of printing b s) (ran_of b s 1_000_000)

-- A read that fails is not the end of a file, and a write that fails is not done: then there is no day. No program prints what stands here.
unfoldable pub no_day : Day
no_day = record { table = turned fresh_book; closing = End; read = 0; done = 0; printed = 0; failed = true }

-- No contract can say which bytes are read, nor whether a read or a write fails. This one says that there are bytes of which d is the day over the book b, unless a call failed; of a book
-- that isn't sound nothing is read or printed, and no call can fail.
pub record Came (printing : Bool) (b : Book) (d : Day) : Type 0 where
  pub input : List ℕ
  pub bytes : Bytes input
  pub is : d ≡ pick (d.failed && sound_b b) no_day (whole_day printing b input)

-- The program `explain`: "`day`'s output, and behind each refused record with one amount .. two more numbers"; of an unsound book no line
unfoldable pub explained_text : Book → List ℕ → List ℕ
explained_text b s = pick (sound_b b) (told_of (line_told true) s 1_000_000 b 0) []

-- the same day, with so many bytes printed
unfoldable pub explained_day : Book → List ℕ → Day
explained_day b s = day_of (length (explained_text b s)) (ran_of b s 1_000_000)

pub record CameExplained (b : Book) (d : Day) : Type 0 where
  pub input : List ℕ
  pub bytes : Bytes input
  pub is : d ≡ pick (d.failed && sound_b b) no_day (explained_day b input)
