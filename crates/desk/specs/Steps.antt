-- Carrying out a record handed over as values, and the next one of a piece of the day file.
use Rattle.std.specs.Prelude.{List, ℕ}
use Rattle.sums.specs.Choice.{pick}
use Rattle.rows.specs.declared.Book.{Book}
use Rattle.rows.specs.Rows.{place_of}
use Rattle.book.specs.Sound.{sound_b}
use Rattle.dayfile.specs.declared.Record.{Record}
use Rattle.dayfile.specs.declared.Found.{Found}
use Rattle.dayfile.specs.declared.Found.TheVariants.{End as NoBytes, Cut as TooFew, Whole}
use Rattle.dayfile.specs.Reading.{found_at, number_found}
use Rattle.desk.specs.declared.Outcome.TheVariants.{Refused, End}
use Rattle.desk.specs.declared.Answer.{Answer}
use Rattle.rules.specs.declared.Change.{Change}
use Rattle.rules.specs.Effects.{book_after}
use Rattle.rules.specs.Numbered.{verdict_of, given_of, act_of}
use Rattle.desk.specs.Answers.{nobody, answer_of}

-- a record's answer, and the book after it
pub record Done : Type 0 where
  pub answer : Answer
  pub book : Book

-- the same with the place after it
pub record Next : Type 0 where
  pub answer : Answer
  pub book : Book
  pub place : ℕ

-- the answer and the book after a change that the record makes
abbrev pub done_by : Book → Record → Change → Done
done_by b r c = record { answer = answer_of b.next r c; book = book_after b (place_of b r.account) c }

-- "A record handed over as values is checked as one that was read"
unfoldable pub step_of : Book → Record → Done
step_of b r = done_by b r (act_of b r)

-- what stands at the place is carried out. "2: bytes are left, but too few for the record's first six bytes or for its
-- amounts". "No bytes left means the end, which is no refusal, and the book stays the same."
abbrev pub on_found : Book → ℕ → Found → Next
on_found b at NoBytes = record { answer = nobody End; book = b; place = at }
on_found b at TooFew = record { answer = nobody (Refused (number_found TooFew)); book = b; place = at }
on_found b at (Whole r next) = record { answer = (step_of b r).answer; book = (step_of b r).book; place = next }

-- "an unsound book gives 1 even at the end"; "Carrying out from a file leaves the place with 1, 2 and the end and otherwise
-- moves it past the record, after refusal 3 too."
unfoldable pub next_of : Book → List ℕ → ℕ → Next
next_of b s at = pick (sound_b b) (on_found b at (found_at s at)) (record { answer = nobody (Refused 1); book = b; place = at })

-- Document 01's numbers of an answer (`refusal_in`, `given_in`) are for a record `verdict_of` and `given_of`. For what stands at a place of a piece:
abbrev pub refusal_found : Book → Found → ℕ
refusal_found b NoBytes = number_found NoBytes
refusal_found b TooFew = number_found TooFew
refusal_found b (Whole r next) = verdict_of b r

abbrev pub given_found : Book → Found → ℕ
given_found b NoBytes = 0
given_found b TooFew = 0
given_found b (Whole r next) = given_of b r

-- "an unsound book gives 1 even at the end"
abbrev pub next_refusal : Book → List ℕ → ℕ → ℕ
next_refusal b s at = pick (sound_b b) (refusal_found b (found_at s at)) 1

abbrev pub next_given : Book → List ℕ → ℕ → ℕ
next_given b s at = pick (sound_b b) (given_found b (found_at s at)) 0
