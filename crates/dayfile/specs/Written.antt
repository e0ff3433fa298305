-- Document 01, 'The day file': a record's bytes, and what the writer does.
use Rattle.std.specs.Prelude.{Bool, not, List, [], ◌∷◌, ◌++◌, ℕ, zero, suc, leb, length}
use Rattle.sums.specs.Choice.{unless_refused}
use Rattle.sums.specs.Table.{Line, ◌when◌, first}
use Rattle.sums.specs.Room.{at_start}
use Rattle.numbers.specs.Bytes.{bytes_of}
use Rattle.dayfile.specs.declared.Record.{Record}
use Rattle.dayfile.specs.declared.Wrote.{Wrote}
use Rattle.dayfile.specs.declared.Wrote.TheVariants.{Written, Refused}
use Rattle.dayfile.specs.Records.{bit, faults}

-- For a good record: its second mark byte has none of the bits 6 and 7. "eight bytes for each one in the second mark byte":
-- an amount's bytes where its bit is 1, none where it is 0
unfoldable pub field : ℕ → ℕ → List ℕ
field zero x = []
field (suc n) x = bytes_of 8 x

-- what follows the mark: serial, account number, "amounts stand in rising bit order"
unfoldable pub body_of : Record → List ℕ
body_of r =
    bytes_of 2 r.serial ++ (bytes_of 2 r.account
    ++ (field (bit 0 r.named) r.kinds.cash
    ++ (field (bit 1 r.named) r.kinds.deposits
    ++ (field (bit 2 r.named) r.kinds.guarantees
    ++ (field (bit 3 r.named) r.kinds.securities
    ++ (field (bit 4 r.named) r.pledged
    ++ field (bit 5 r.named) r.margin))))))

-- "A record is a two-byte mark, a two-byte serial, a two-byte account number, then eight bytes for each one"; "The first
-- mark byte is the code."
unfoldable pub written_of : Record → List ℕ
written_of r = r.code ∷ r.named ∷ body_of r

-- "15: writer: the room is shorter than the record"
abbrev pub has_room : Record → List ℕ → Bool
has_room r room = leb (length (written_of r)) (length room)

-- "The writer refuses what no good record could say: 4, 5, then 6 .., then 15"
abbrev pub writer_refusals : Record → List ℕ → List Line
writer_refusals r room = faults r ++ ((15 when not (has_room r room)) ∷ [])

-- the first that applies, or 0
unfoldable pub writer_refusal : Record → List ℕ → ℕ
writer_refusal r room = first (writer_refusals r room)

-- the writer's answer: how many bytes it wrote, or its refusal
unfoldable pub wrote_of : Record → List ℕ → Wrote
wrote_of r room = unless_refused (writer_refusal r room) (Written (length (written_of r))) Refused

-- "it then writes nothing. When it writes, the room past the record stays unchanged."
unfoldable pub room_after : Record → List ℕ → List ℕ
room_after r room = unless_refused (writer_refusal r room) (at_start (written_of r) room) (λ n. room)

-- document 01's number of what the writer answered
abbrev pub refusal_wrote : Wrote → ℕ
refusal_wrote (Written n) = 0
refusal_wrote (Refused n) = n
