-- `words::text_of_bytes` meets its contract. The invariant: so many records were taken, their lines stand in the room, and what is left is taken from the place on.
use Rattle.std.proofs.Common.{◌-◌, ◌≤◌, length}
use Rattle.words.proofs.RecordPieces.{BytesState}
use Rattle.words.proofs.piece.text_of_bytes.Given as goal

abbrev pub invariant-loop-place : goal.invariant-loop-place
invariant-loop-place l =
    BytesState l.bytes l.last l.running l.initial.room l.room l.place l.lines l.count l.next × (l.lines ≤ l.place) × (l.place ≤ length l.bytes)

abbrev pub decreases-loop-place : goal.decreases-loop-place
decreases-loop-place l = length l.bytes - l.place
