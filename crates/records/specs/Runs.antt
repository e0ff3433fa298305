-- Document 01, 'The program': the records of a piece, carried out one after the other.
use Rattle.std.specs.Prelude.{List, ℕ, zero, suc, ◌+◌}
use Rattle.sums.specs.Choice.{pick}
use Rattle.rows.specs.declared.Book.{Book}
use Rattle.book.specs.Sound.{sound_b}
use Rattle.dayfile.specs.declared.Found.{Found}
use Rattle.dayfile.specs.declared.Found.TheVariants.{End as NoBytes, Cut as TooFew, Whole}
use Rattle.dayfile.specs.Reading.{found_at}
use Rattle.desk.specs.Answers.{carried_in}
use Rattle.desk.specs.Steps.{step_of}
use Rattle.records.specs.declared.Closing.{Closing}
use Rattle.records.specs.declared.Closing.TheVariants.{End, Cut, Long, Unsound}

-- "the book after them, the place reached (after the last record read), the closing word .. and two counts: records read,
-- and those of them with refusal 0"
pub record Ran : Type 0 where
  pub book : Book
  pub place : ℕ
  pub closing : Closing
  pub read : ℕ
  pub done : ℕ

abbrev pub ended_with : Closing → Book → ℕ → ℕ → ℕ → Ran
ended_with word b place read done = record { book = b; place = place; closing = word; read = read; done = done }

-- the stated number is read: "A millionth record followed by nothing is `end`, by anything `long`."
abbrev pub stopped : Found → Book → ℕ → ℕ → ℕ → Ran
stopped NoBytes = ended_with End
stopped TooFew = ended_with Long
stopped (Whole r next) = ended_with Long

-- one record is carried out, and it goes on; "It stops at the end, at a cut"; "a cut record isn't counted"
abbrev pub onward : (Book → ℕ → ℕ → ℕ → Ran) → Found → Book → ℕ → ℕ → ℕ → Ran
onward go NoBytes b place read done = ended_with End b place read done
onward go TooFew b place read done = ended_with Cut b place read done
onward go (Whole r next) b place read done = go (step_of b r).book next (read + 1) (done + carried_in (step_of b r).answer.outcome)

-- from a place on, up to most records more
unfoldable pub run_of : List ℕ → ℕ → Book → ℕ → ℕ → ℕ → Ran
run_of s zero b place read done = stopped (found_at s place) b place read done
run_of s (suc most) b place read done = onward (run_of s most) (found_at s place) b place read done

-- "One library call carries out the records of a lent piece from its start, up to a stated number"; "An unsound book gives 1
-- as the closing word, place 0, counts of 0 and the same book."
unfoldable pub ran_of : Book → List ℕ → ℕ → Ran
ran_of b s most = pick (sound_b b) (run_of s most b 0 0 0) (ended_with Unsound b 0 0 0)

-- Document 01's number of a closing word: "An unsound book gives 1 as the closing word". `end`, `cut` and `long` are no numbers, and have 0 here; `word_of` of the crate lines has all four in bytes.
abbrev pub number_closing : Closing → ℕ
number_closing End = 0
number_closing Cut = 0
number_closing Long = 0
number_closing Unsound = 1

-- 1 for an unsound book, 0 for any other
abbrev pub closing_refusal : Book → ℕ
closing_refusal b = pick (sound_b b) 0 1

-- what a run came to, counted on from a place reached and counts that were there before it
abbrev pub on_from : ℕ → ℕ → ℕ → Ran → Ran
on_from place read done r = ended_with r.closing r.book (place + r.place) (read + r.read) (done + r.done)
