-- A turn of a reader.
use Rattle.std.specs.Prelude.{ℕ, List}
use Rattle.dayfile.specs.Reading.{read_at, place_after}
use Rattle.cases.specs.declared.turning.Turn.{Turn}

-- what a reader at a place sees, what it gives, and its place then
abbrev pub turn_of : List ℕ → ℕ → Turn
turn_of s place = record { seen = read_at s place; given = read_at s place; place = place_after (read_at s place) place }
