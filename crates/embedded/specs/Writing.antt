-- include/loft.h: a record's bytes, and a record at a place of a piece.
use Rattle.std.specs.Prelude.{Bool, List, [], ◌∷◌, ℕ, eqb, length}
use Rattle.sums.specs.Choice.{pick, unless_refused}
use Rattle.dayfile.specs.declared.Record.{Record}
use Rattle.dayfile.specs.declared.Read.{Read}
use Rattle.dayfile.specs.declared.Read.TheVariants.{End, Cut, Good, Bad}
use Rattle.dayfile.specs.Reading.{read_at}
use Rattle.dayfile.specs.Written.{written_of, wrote_of, refusal_wrote, room_after}
use Rattle.embedded.specs.Records.{record_of}

-- ---- written

-- "15 also where `amounts` aren't LOFT_AMOUNTS"
abbrev pub are_six : List ℕ → Bool
are_six amounts = eqb (length amounts) 6

-- by a record, and whether its amounts are six
module _ (six : Bool) (r : Record) (room : List ℕ) where
  -- "Refuses 4 to 6, 15"; 15 for the amounts "before any other", and "where the room is too short, after 4 to 6"
  unfoldable pub write_refusal : ℕ
  write_refusal = pick six (refusal_wrote (wrote_of r room)) 15

  -- "A record's bytes, put at the start of a room"
  unfoldable pub write_room : List ℕ
  write_room = pick six (room_after r room) room

  -- "and how many they are"; with a refusal the number stays
  unfoldable pub write_length : ℕ → ℕ
  write_length before = unless_refused write_refusal (length (written_of r)) (λ n. before)

-- ---- read

-- "LOFT_NUMBERS numbers"
abbrev pub are_eleven : List ℕ → Bool
are_eleven numbers = eqb (length numbers) 11

-- "LOFT_NO_RECORD where no byte is left", 2, 4 to 6, or 0
abbrev pub read_number : Read → ℕ
read_number End = 255
read_number Cut = 2
read_number (Good r next) = 0
read_number (Bad reason serial code account next) = reason

-- "the place behind it, serial, code, account, mark byte, six amounts"
abbrev pub eleven_of : ℕ → Record → List ℕ
eleven_of next r =
    next ∷ r.serial ∷ r.code ∷ r.account ∷ r.named ∷ r.kinds.cash ∷ r.kinds.deposits ∷ r.kinds.guarantees ∷ r.kinds.securities ∷ r.pledged ∷ r.margin ∷ []

-- "With 4 to 6 the first four are told too, and the other seven are 0."
abbrev pub told_read : Read → List ℕ → List ℕ
told_read End numbers = numbers
told_read Cut numbers = numbers
told_read (Good r next) numbers = eleven_of next r
told_read (Bad reason serial code account next) numbers = eleven_of next (record_of serial code 0 account [])

-- "refuses 15, 2, 4 to 6"
unfoldable pub read_refusal : List ℕ → ℕ → List ℕ → ℕ
read_refusal piece place numbers = pick (are_eleven numbers) (read_number (read_at piece place)) 15

unfoldable pub read_numbers : List ℕ → ℕ → List ℕ → List ℕ
read_numbers piece place numbers = pick (are_eleven numbers) (told_read (read_at piece place) numbers) numbers
