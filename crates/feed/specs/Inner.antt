-- Only for internal functions: no promise of a public call cites it.
use Rattle.std.specs.Prelude.{Bool, true, ◌&&◌, List, [], ◌≡◌, ℕ, max, length}
use Rattle.sums.specs.Choice.{pick}
use Rattle.numbers.specs.Bytes.{Bytes}
use Rattle.rows.specs.declared.Book.{Book}
use Rattle.book.specs.Sound.{sound_b}
use Rattle.records.specs.declared.Closing.{Closing}
use Rattle.records.specs.declared.Closing.TheVariants.{End, Cut, Long, Unsound}
use Rattle.records.specs.Runs.{ran_of}
use Rattle.telling.specs.Told.{told_of}
use Rattle.telling.specs.Explained.{line_told}
use Rattle.feed.specs.declared.Day.{Day}
use Rattle.feed.specs.Fed.{day_of, no_day}

-- whether a turn is the last, where the piece was, or wasn't, shorter than its space, and the million is, or isn't, full: after the end of a full piece, or a cut there, more
-- may follow, and `long` may say only that the turn's own number was reached
abbrev pub stops_at : Closing → Bool → Bool → Bool
stops_at End short full = short
stops_at Cut short full = short
stops_at Long short full = full
stops_at Unsound short full = true

-- a turn's own number, by what it came to: as many records as it read where their lines filled the room, and otherwise any that is large enough
abbrev pub turn_takes : Closing → ℕ → ℕ
turn_takes End read = 1_000_000
turn_takes Cut read = 1_000_000
turn_takes Long read = max 1 read
turn_takes Unsound read = 1_000_000

-- what is printed of a turn's records, up to most of them
abbrev pub turn_text : Bool → Bool → List ℕ → ℕ → Book → List ℕ
turn_text printing explained s most b = pick printing (told_of (line_told explained) s most b 0) []

-- what is printed of a day file's bytes, explained or not
abbrev pub told_text : Bool → Bool → Book → List ℕ → List ℕ
told_text printing explained b s = pick (printing && sound_b b) (told_of (line_told explained) s 1_000_000 b 0) []

-- there are bytes of which d is the day over the book b, with so much printed, unless a call failed
pub record CameWith (text : List ℕ → List ℕ) (b : Book) (d : Day) : Type 0 where
  pub input : List ℕ
  pub bytes : Bytes input
  pub is : d ≡ pick (d.failed && sound_b b) no_day (day_of (length (text input)) (ran_of b input 1_000_000))
