-- What is told of the records of a piece, one after the other, whatever is told of each.
use Rattle.std.specs.Prelude.{List, [], ◌++◌, ℕ, zero, suc}
use Rattle.rows.specs.declared.Book.{Book}
use Rattle.dayfile.specs.declared.Record.{Record}
use Rattle.dayfile.specs.declared.Found.{Found}
use Rattle.dayfile.specs.declared.Found.TheVariants.{End as NoBytes, Cut as TooFew, Whole}
use Rattle.dayfile.specs.Reading.{found_at}
use Rattle.desk.specs.Steps.{step_of}

-- of what stands at a place, and of what go tells after it: tell has the book just before the record
abbrev pub telling : (Book → Record → List ℕ) → (Book → ℕ → List ℕ) → Found → Book → List ℕ
telling tell go NoBytes b = []
telling tell go TooFew b = []
telling tell go (Whole r next) b = tell b r ++ go (step_of b r).book next

-- of the records from a place on, up to most of them
unfoldable pub told_of : (Book → Record → List ℕ) → List ℕ → ℕ → Book → ℕ → List ℕ
told_of tell s zero b place = []
told_of tell s (suc most) b place = telling tell (told_of tell s most) (found_at s place) b
