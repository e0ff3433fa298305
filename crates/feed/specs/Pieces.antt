-- A day file that comes in pieces: one turn for each of them, a function of how far the day file is carried out, of the piece and of how many records the turn takes.
use Rattle.std.specs.Prelude.{Bool, false, ◌&&◌, List, [], ◌∷◌, ◌++◌, ℕ, ◌+◌, ◌-◌, min, length, drop}
use Rattle.sums.specs.Choice.{pick}
use Rattle.rows.specs.declared.Book.{Book}
use Rattle.book.specs.Sound.{sound_b}
use Rattle.dayfile.specs.declared.Record.{Record}
use Rattle.table.specs.Words.{turned}
use Rattle.records.specs.Runs.{Ran, ran_of}
use Rattle.telling.specs.Told.{told_of}
use Rattle.feed.specs.declared.Day.{Day}

-- how far a day file is carried out: the book, the bytes that came and are not carried out yet, and the two counts
pub record Stand : Type 0 where
  pub book : Book
  pub rest : List ℕ
  pub read : ℕ
  pub done : ℕ

-- a turn: the bytes that came, and how many records it takes at most, as many as their lines have room for
pub record Turn : Type 0 where
  pub piece : List ℕ
  pub most : ℕ

-- nothing came: the book is the one handed over, as a fresh one
abbrev pub at_first : Book → Stand
at_first b = record { book = b; rest = []; read = 0; done = 0 }

-- how many records a turn carries out at most: its own number, and those left of the million
abbrev pub turn_most : ℕ → ℕ → ℕ
turn_most read most = min (1_000_000 - read) most

-- the records of what is left and of the piece behind it
abbrev pub turn_of : Stand → Turn → Ran
turn_of s t = ran_of s.book (s.rest ++ t.piece) (turn_most s.read t.most)

-- how far the day file is carried out after a turn
abbrev pub stand_after : Stand → Turn → Stand
stand_after s t =
    let r = turn_of s t in
    record { book = r.book; rest = drop r.place (s.rest ++ t.piece); read = s.read + r.read; done = s.done + r.done }

-- the day that a turn ends, and the bytes printed
abbrev pub day_by : ℕ → Stand → Turn → Day
day_by printed s t =
    let r = turn_of s t in
    record { table = turned r.book; closing = r.closing; read = s.read + r.read; done = s.done + r.done; printed = printed; failed = false }

-- what is told of a turn's records
abbrev pub turn_told : (Book → Record → List ℕ) → Stand → Turn → List ℕ
turn_told tell s t = told_of tell (s.rest ++ t.piece) (turn_most s.read t.most) s.book 0

-- over a book, after some turns, the latest of which stands first in the list: how far the day file is carried out, all bytes that came, the place reached in them, and all that was told
unfoldable pub after : Book → List Turn → Stand
after b [] = at_first b
after b (t ∷ before) = stand_after (after b before) t

unfoldable pub came_by : List Turn → List ℕ
came_by [] = []
came_by (t ∷ before) = came_by before ++ t.piece

unfoldable pub place_by : Book → List Turn → ℕ
place_by b [] = 0
place_by b (t ∷ before) = place_by b before + (turn_of (after b before) t).place

unfoldable pub told_by : (Book → Record → List ℕ) → Book → List Turn → List ℕ
told_by tell b [] = []
told_by tell b (t ∷ before) = told_by tell b before ++ turn_told tell (after b before) t

-- how many bytes were printed so far, where that is asked for; of an unsound book none
unfoldable pub printed_by : Bool → (Book → Record → List ℕ) → Book → List Turn → ℕ
printed_by printing tell b turns = length (pick (printing && sound_b b) (told_by tell b turns) [])
