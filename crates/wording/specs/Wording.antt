-- What can be said of a file that is read in pieces and turned into the other form.
use Rattle.std.specs.Prelude.{Bool, true, false, List, [], ◌≡◌, ℕ, ◌-◌, leb, length}
use Rattle.sums.specs.Choice.{pick}
use Rattle.numbers.specs.Bytes.{Bytes}
use Rattle.words.specs.Texts.{Turned, fails, File, file, wrong, file_from, line_turned, lines_of, text_of}
use Rattle.words.specs.Pieces.{ended}
use Rattle.wording.specs.declared.Worded.{Worded}

-- "A line longer than the program's room for one .. is told as fault 34": it has 16,454 bytes or more, its newline not counted
unfoldable pub too_long : List ℕ → Bool
too_long line = leb 16454 (length line - pick (ended line) 1 0)

unfoldable pub line_within : ℕ → List ℕ → Turned
line_within running line = pick (too_long line) (fails 34) (line_turned running line)

-- the day file that a text says, or the first of its lines that says nothing or is too long
abbrev pub day_within : ℕ → List ℕ → File
day_within running t = file_from line_within running (lines_of t)

-- "Any bytes have a text."
abbrev pub in_text : ℕ → List ℕ → File
in_text running s = file (text_of running s)

-- A read or a write that fails is told, and then nothing else is.
unfoldable pub no_words : Worded
no_words = record { failed = true; line = 0; fault = 0; printed = 0 }

-- a whole file, and how much of it was printed; or a bad line's number and its fault. A text is printed only after it was judged: a bad line then is a failure, the text was changed in between.
unfoldable pub worded_of : Bool → File → Worded
worded_of printing (file y) = record { failed = false; line = 0; fault = 0; printed = length (pick printing y []) }
worded_of printing (wrong line fault) = pick printing no_words (record { failed = false; line = line; fault = fault; printed = 0 })

-- No contract can say which bytes are read, nor whether a call fails. This one says that there are bytes of which d is what all of them come to, unless it failed.
pub record Came (turned : List ℕ → File) (printing : Bool) (d : Worded) : Type 0 where
  pub input : List ℕ
  pub bytes : Bytes input
  pub is : d ≡ pick d.failed no_words (worded_of printing (turned input))
