-- "The program reads a day file .. from standard input": a day file that comes in pieces of any lengths, a turn for each of them that takes any number of records, is the day file
-- carried out at once, book, counts and lines.
-- What is left to believe: which bytes came, that the lines handed over were written, and whether a call failed.
use mathlib.Core.Bool.{Bool, true, false}
use mathlib.Core.List.{List, ◌∷◌, ◌++◌}
use mathlib.Core.Path.{◌≡◌}
use Prim.Native.Nat.{ℕ, ◌+◌, ◌-◌, ◌≤◌}
use lib.Dec.{leb}
use Rattle.rows.specs.declared.Book.{Book}
use Rattle.book.specs.Facts.{Sound}
use Rattle.records.specs.Runs.{ran_of, on_from}
use Rattle.dayfile.specs.declared.Record.{Record}
use Rattle.records.specs.LineNumbers.{answers_of}
use Rattle.lines.specs.Lines.{lines_of}
use Rattle.telling.specs.Told.{told_of}
use Rattle.telling.specs.Explained.{line_told}
use Rattle.feed.specs.Fed.{whole_day, explained_day}
use Rattle.feed.specs.Pieces.{Turn, turn_of, day_by, after, came_by, place_by, told_by, printed_by}
use Rattle.feed.specs.Inner.{stops_at}
use Rattle.feed.proofs.Pieces.{so_far, read-so-far, done-so-far, sound-so-far}
use Rattle.feed.proofs.PieceLines.{lines-told, told-so-far, told-whole}
use Rattle.feed.proofs.Feeding.{day-of-turns, explained-day-of-turns}

-- After any turns, and with whatever follows: the day of all bytes is what the turns so far came to, and then the records of what is left and of what follows.
pub the-day-of-all-bytes-so-far : (b : Book) (turns : List Turn) (x : List ℕ) → (let s = after b turns in
    ran_of b (came_by turns ++ x) 1_000_000 ≡ on_from (place_by b turns) s.read s.done (ran_of s.book (s.rest ++ x) (1_000_000 - s.read)))
the-day-of-all-bytes-so-far = so_far

-- What the turns so far told, and then what is told of what is left and of what follows, is what is told of all bytes: whatever is told of each record ..
pub what-is-told-of-all-bytes-so-far : (tell : Book → Record → List ℕ) (b : Book) → Sound b → (turns : List Turn) (x : List ℕ) → (let s = after b turns in
    told_by tell b turns ++ told_of tell (s.rest ++ x) (1_000_000 - s.read) s.book 0 ≡ told_of tell (came_by turns ++ x) 1_000_000 b 0)
what-is-told-of-all-bytes-so-far = told-so-far

-- .. and its line is one such telling.
pub lines-are-told : (s : List ℕ) (n : ℕ) (b : Book) (place : ℕ) → told_of (line_told false) s n b place ≡ lines_of (answers_of s n b place)
lines-are-told = lines-told

-- The counts and the book on the way: at most a million records, no more carried out than read, a sound book.
pub on-the-way : (b : Book) → Sound b → (turns : List Turn) → (let s = after b turns in (s.read ≤ 1_000_000) × (s.done ≤ s.read) × Sound s.book)
on-the-way b h turns = (read-so-far b turns, done-so-far b turns, sound-so-far b h turns)

-- A turn that is the last, since it took all of a piece that is shorter than its space or the million is full, ends the day of all bytes that came, with as many bytes printed as its lines have ..
pub the-last-turn-ends-the-day : (printing : Bool) (b : Book) (before : List Turn) (t : Turn) (short : Bool)
    → (let s = after b before in stops_at (turn_of s t).closing short (leb 1_000_000 (s.read + (turn_of s t).read)) ≡ true)
    → day_by (printed_by printing (line_told false) b (t ∷ before)) (after b before) t ≡ whole_day printing b (came_by (t ∷ before))
the-last-turn-ends-the-day = day-of-turns

-- .. and likewise the day of which lines are explained ..
pub the-last-turn-ends-the-explained-day : (b : Book) (before : List Turn) (t : Turn) (short : Bool)
    → (let s = after b before in stops_at (turn_of s t).closing short (leb 1_000_000 (s.read + (turn_of s t).read)) ≡ true)
    → day_by (printed_by true (line_told true) b (t ∷ before)) (after b before) t ≡ explained_day b (came_by (t ∷ before))
the-last-turn-ends-the-explained-day = explained-day-of-turns

-- .. and then what all turns told is what is told of the whole day.
pub what-all-turns-told : (tell : Book → Record → List ℕ) (b : Book) → Sound b → (before : List Turn) (t : Turn) (short : Bool)
    → (let s = after b before in stops_at (turn_of s t).closing short (leb 1_000_000 (s.read + (turn_of s t).read)) ≡ true)
    → told_by tell b (t ∷ before) ≡ told_of tell (came_by (t ∷ before)) 1_000_000 b 0
what-all-turns-told = told-whole
