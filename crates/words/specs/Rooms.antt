-- A lent room: what is put at its start, and the answer. A room that is too small is refused with 15; a room stays as it was where anything is refused.
use Rattle.std.specs.Prelude.{ℕ, ◌&&◌, List, length, nat_le}
use Rattle.sums.specs.Choice.{pick, unless_refused}
use Rattle.sums.specs.Room.{at_start}
use Rattle.dayfile.specs.declared.Record.{Record}
use Rattle.dayfile.specs.declared.Wrote.{Wrote}
use Rattle.dayfile.specs.declared.Wrote.TheVariants.{Written, Refused}
use Rattle.dayfile.specs.Records.{fault_of}
use Rattle.words.specs.Lines.{line_of}
use Rattle.words.specs.Hex.{raw_line}
use Rattle.words.specs.Texts.{Meant, means, faulty}

-- the refusal of bytes x that are themselves refused with n, or are not (0)
abbrev pub refusal : ℕ → List ℕ → List ℕ → ℕ
refusal n x room = unless_refused n (pick (nat_le (length x) (length room)) 0 15) (λ k. k)

-- how many bytes were put, or the refusal; and the room then
unfoldable pub put_answer : ℕ → List ℕ → List ℕ → Wrote
put_answer n x room = unless_refused (refusal n x room) (Written (length x)) Refused

unfoldable pub put_room : ℕ → List ℕ → List ℕ → List ℕ
put_room n x room = unless_refused (refusal n x room) (at_start x room) (λ k. room)

-- a record's line: "A record is written in words exactly when it is good (none of 4, 5, 6)"
abbrev pub line_answer : Record → ℕ → List ℕ → Wrote
line_answer r running room = put_answer (fault_of r) (line_of running r) room

abbrev pub line_room : Record → ℕ → List ℕ → List ℕ
line_room r running room = put_room (fault_of r) (line_of running r) room

-- a line of bytes: "`raw` says 1 to 70 bytes"; any other number is refused with 32
abbrev pub raw_fault : List ℕ → ℕ
raw_fault x = pick (nat_le 1 (length x) && nat_le (length x) 70) 0 32

abbrev pub raw_answer : List ℕ → List ℕ → Wrote
raw_answer x room = put_answer (raw_fault x) (raw_line x) room

abbrev pub raw_room : List ℕ → List ℕ → List ℕ
raw_room x room = put_room (raw_fault x) (raw_line x) room

-- the bytes that a line means, or its fault
unfoldable pub meant_answer : Meant → List ℕ → Wrote
meant_answer (means x) room = put_answer 0 x room
meant_answer (faulty n) room = Refused n

unfoldable pub meant_room : Meant → List ℕ → List ℕ
meant_room (means x) room = put_room 0 x room
meant_room (faulty n) room = room
