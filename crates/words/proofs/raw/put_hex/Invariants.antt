use Rattle.std.proofs.Common.{◌≡◌, ◌+◌, ◌*◌, take}
use Rattle.text.specs.Inner.{Puts}
use Rattle.words.specs.Hex.{hex_of}
use Rattle.words.proofs.raw.put_hex.Given as goal

abbrev pub invariant-loop-b : goal.invariant-loop-b
invariant-loop-b l = Puts l.initial.room l.at (hex_of (take l.b-index l.bytes)) l.room l.place × (l.place ≡ l.at + 2 * l.b-index)
