-- A record's line, and behind it, where that is asked for, how much would have passed.
use Rattle.std.specs.Prelude.{Bool, not, ◌&&◌, List, [], ◌∷◌, ◌++◌, ℕ, eqb}
use Rattle.std.specs.Int.Count.{ones}
use Rattle.sums.specs.Choice.{pick}
use Rattle.rows.specs.declared.Book.{Book}
use Rattle.dayfile.specs.declared.Record.{Record}
use Rattle.passing.specs.declared.Largest.{Largest}
use Rattle.passing.specs.Most.{most_of}
use Rattle.desk.specs.Answers.{refusal_in}
use Rattle.desk.specs.Steps.{step_of}
use Rattle.records.specs.LineNumbers.{numbers_of_line}
use Rattle.text.specs.Numbers.{spaced}

-- "each refused record that has exactly one amount (its second mark byte has one bit, whichever ..)"
abbrev pub is_explained : ℕ → ℕ → Bool
is_explained refusal named = not (eqb refusal 0) && eqb (ones named) 1

-- "two numbers more ..: the refusal and the amount that `most` gives"
abbrev pub two_more : Bool → Largest → List ℕ
two_more more m = pick more (m.refusal ∷ m.amount ∷ []) []

-- the record's line of `day`; where lines are explained with them "at the book just before it"
unfoldable pub line_told : Bool → Book → Record → List ℕ
line_told explained b r =
    let a = (step_of b r).answer in
    spaced (numbers_of_line a ++ two_more (explained && is_explained (refusal_in a.outcome) r.named) (most_of b r))
