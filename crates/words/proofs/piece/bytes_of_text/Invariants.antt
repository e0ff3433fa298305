-- `words::bytes_of_text` meets its contract. The invariant: so many lines were taken, what they mean stands in the room, and what is left is taken from the place on.
use Rattle.std.proofs.Common.{◌-◌, ◌≤◌, length}
use Rattle.words.proofs.TextPieces.{TextState}
use Rattle.words.proofs.piece.bytes_of_text.Given as goal

abbrev pub invariant-loop-place : goal.invariant-loop-place
invariant-loop-place l =
    TextState l.text l.last l.running l.initial.room l.room l.place l.lines l.count l.next × (l.lines ≤ l.place) × (l.place ≤ length l.text)

abbrev pub decreases-loop-place : goal.decreases-loop-place
decreases-loop-place l = length l.text - l.place
