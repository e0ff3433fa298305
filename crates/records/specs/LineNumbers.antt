-- "a line per record ..: serial, code, account named, refusal or 0, number given or 0": the numbers of those lines.
use Rattle.std.specs.Prelude.{List, [], ◌∷◌, ◌++◌, ℕ, zero, suc, ◌+◌, ◌/◌, min, length}
use Rattle.sums.specs.Choice.{pick}
use Rattle.sums.specs.Room.{at_start}
use Rattle.rows.specs.declared.Book.{Book}
use Rattle.book.specs.Sound.{sound_b}
use Rattle.dayfile.specs.declared.Found.{Found}
use Rattle.dayfile.specs.declared.Found.TheVariants.{End as NoBytes, Cut as TooFew, Whole}
use Rattle.dayfile.specs.Reading.{found_at}
use Rattle.desk.specs.declared.Answer.{Answer}
use Rattle.desk.specs.Answers.{refusal_in, given_in, carried_in}
use Rattle.desk.specs.Steps.{step_of}

-- the answer to what stands at a place, and those of go after it
abbrev pub answering : (Book → ℕ → List Answer) → Found → Book → List Answer
answering go NoBytes b = []
answering go TooFew b = []
answering go (Whole r next) b = (step_of b r).answer ∷ go (step_of b r).book next

-- the answers to the records from a place on, up to most of them
unfoldable pub answers_of : List ℕ → ℕ → Book → ℕ → List Answer
answers_of s zero b place = []
answers_of s (suc most) b place = answering (answers_of s most) (found_at s place) b

-- "those of them with refusal 0"
unfoldable pub carried_of : List Answer → ℕ
carried_of [] = 0
carried_of (a ∷ rest) = carried_in a.outcome + carried_of rest

-- the five numbers of an answer
unfoldable pub numbers_of_line : Answer → List ℕ
numbers_of_line a = a.serial ∷ a.code ∷ a.account ∷ refusal_in a.outcome ∷ given_in a.outcome ∷ []

-- the numbers of all lines, one after the other
unfoldable pub numbers_of_lines : List Answer → List ℕ
numbers_of_lines [] = []
numbers_of_lines (a ∷ rest) = numbers_of_line a ++ numbers_of_lines rest

-- as many records as there is room for
abbrev pub room_for : ℕ → List ℕ → ℕ
room_for most room = min most (length room / 5)

-- the room after the records' numbers are put into it, from its start; an unsound book leaves it as it was
unfoldable pub numbers_room : Book → List ℕ → ℕ → List ℕ → List ℕ
numbers_room b s most room =
    pick (sound_b b) (at_start (numbers_of_lines (answers_of s (room_for most room) b 0)) room) room
