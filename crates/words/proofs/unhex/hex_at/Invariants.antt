-- `words::unhex::hex_at` meets its contract. The invariant: n bytes stand in the room, and what is left to read is what stands at i.
use Rattle.std.proofs.Common.{◌≡◌, ◌-◌, ◌≤◌, length, drop}
use Rattle.words.specs.Hex.{hex_from}
use Rattle.words.proofs.Unhexing.{HexSofar}
use Rattle.words.proofs.unhex.hex_at.Given as goal

abbrev pub invariant-loop-n : goal.invariant-loop-n
invariant-loop-n l =
    HexSofar (hex_from 70 (drop l.at l.line) l.at) l.room l.n (hex_from (70 - l.n) (drop l.i l.line) l.i) × (l.n ≤ 70) × (length l.room ≡ length l.initial.room)

abbrev pub decreases-loop-n : goal.decreases-loop-n
decreases-loop-n l = length l.line - l.i
