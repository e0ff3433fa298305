-- Only for internal functions: no promise of a public call cites it.
use Rattle.std.specs.Prelude.{Bool, List, ℕ, zero, suc, ◌+◌, ◌*◌}
use Rattle.std.proofs.lemmas.List.Edits.{sets}
use Rattle.rows.specs.declared.Book.{Book}
use Rattle.steps.specs.declared.Lent.{Lent}
use Rattle.steps.specs.Steps.{book_in}
use Rattle.dayfile.specs.declared.Found.{Found}
use Rattle.dayfile.specs.declared.Found.TheVariants.{End as NoBytes, Cut as TooFew, Whole}
use Rattle.dayfile.specs.Reading.{found_at}
use Rattle.desk.specs.Steps.{step_of}
use Rattle.records.specs.declared.Went.{Went}
use Rattle.records.specs.LineNumbers.{numbers_of_line}
use Rattle.records.specs.Runs.{Ran}

-- the room with the numbers of the record that is number k put in
abbrev pub put_line_numbers : List ℕ → ℕ → List ℕ → List ℕ
put_line_numbers room k numbers = sets room (5 * k) numbers

-- the room after what stands at a place, record number k, has its numbers put, and then those that go puts
abbrev pub numbering : (Book → ℕ → ℕ → List ℕ → List ℕ) → Found → Book → ℕ → List ℕ → List ℕ
numbering go NoBytes b k room = room
numbering go TooFew b k room = room
numbering go (Whole r next) b k room = go (step_of b r).book next (k + 1) (put_line_numbers room k (numbers_of_line (step_of b r).answer))

-- the room after the records from a place on, the first of which is number k
unfoldable pub put_numbers_from : List ℕ → ℕ → Book → ℕ → ℕ → List ℕ → List ℕ
put_numbers_from s zero b place k room = room
put_numbers_from s (suc most) b place k room = numbering (put_numbers_from s most) (found_at s place) b k room

-- what the loop came to, with the arrays that it left
abbrev pub ran_in : Went → List Bool → Lent → Ran
ran_in x was k = record { book = book_in x.at was k; place = x.place; closing = x.closing; read = x.read; done = x.done }
