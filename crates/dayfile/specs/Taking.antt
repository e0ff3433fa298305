-- Only for internal functions, but for `mark_of`, by which a line in words names its amount.
use Rattle.std.specs.Prelude.{ℕ, ◌+◌, ◌*◌, ◌&&◌, ◌||◌, List, leb, eqb}
use Rattle.sums.specs.Choice.{pick}
use Rattle.dayfile.specs.declared.reader.Took.{Took}
use Rattle.dayfile.specs.declared.reading.Places.{Places}
use Rattle.dayfile.specs.Records.{bit}
use Rattle.dayfile.specs.Reading.{read_at, place_after}

-- what is read at a place, with the place after it
abbrev pub took_at : List ℕ → ℕ → Took
took_at s place = record { read = read_at s place; place = place_after (read_at s place) place }

-- where each of a record's six amounts stands, or would stand: behind the amounts named before it
abbrev pub places_from : ℕ → ℕ → Places
places_from place named = record {
  p0 = place + 2 + 2;
  p1 = place + 2 + 2 + 8 * bit 0 named;
  p2 = place + 2 + 2 + 8 * bit 0 named + 8 * bit 1 named;
  p3 = place + 2 + 2 + 8 * bit 0 named + 8 * bit 1 named + 8 * bit 2 named;
  p4 = place + 2 + 2 + 8 * bit 0 named + 8 * bit 1 named + 8 * bit 2 named + 8 * bit 3 named;
  p5 = place + 2 + 2 + 8 * bit 0 named + 8 * bit 1 named + 8 * bit 2 named + 8 * bit 3 named + 8 * bit 4 named;
}

-- the one second mark byte that suits a code that names no kinds
abbrev pub mark_of : ℕ → ℕ
mark_of code = pick (eqb code 10 || eqb code 13) 32 (pick (leb 8 code && leb code 9 || eqb code 12) 16 0)
