-- What the call that writes lines gives: the run's results, and the text in the lent room.
use Rattle.std.specs.Prelude.{List, [], ℕ, ◌/◌, min, length}
use Rattle.sums.specs.Choice.{pick}
use Rattle.rows.specs.declared.Book.{Book}
use Rattle.book.specs.Sound.{sound_b}
use Rattle.run.specs.declared.Ended.{Ended}
use Rattle.records.specs.Runs.{ran_of}
use Rattle.run.specs.Over.{over_ran}
use Rattle.records.specs.LineNumbers.{answers_of}
use Rattle.lines.specs.Lines.{lines_of}
use Rattle.lines.specs.declared.Lined.{Lined}

-- how many records a call carries out at most: the stated number, as many as the room surely holds with 32 bytes for each, and 2048
abbrev pub limit_of : ℕ → List ℕ → ℕ
limit_of most room = min most (min (length room / 32) 2048)

-- the lines of the records of a piece, up to most of them; an unsound book has none
unfoldable pub text_of : Book → List ℕ → ℕ → List ℕ
text_of b s most = pick (sound_b b) (lines_of (answers_of s most b 0)) []

abbrev pub with_text : Ended → ℕ → Lined
with_text ran text = record { table = ran.table; place = ran.place; closing = ran.closing; read = ran.read; done = ran.done; text = text }

-- what the call gives beside the room
unfoldable pub lined_of : Book → List ℕ → ℕ → Lined
lined_of b s most = with_text (over_ran (ran_of b s most)) (length (text_of b s most))

-- as many lines as there are numbers for, and as the room surely holds with 32 bytes for each
abbrev pub fitting : ℕ → List ℕ → List ℕ → ℕ
fitting count numbers room = min count (min (length numbers / 5) (length room / 32))
