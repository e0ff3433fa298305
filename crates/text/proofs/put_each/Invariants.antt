-- `text::put_each` meets its contract. The invariant: the first numbers stand in the room, at most 21 bytes each.
use Prim.Native.Nat.{◌+◌, ◌*◌, ◌≤◌}
use lib.ListN.{take}
use Rattle.text.specs.Numbers.{and_spaces}
use Rattle.text.specs.Inner.{Puts}
use Rattle.text.proofs.put_each.Given as goal

abbrev pub invariant-loop-x : goal.invariant-loop-x
invariant-loop-x l = Puts l.initial.room l.at (and_spaces (take l.x-index (take l.n l.list))) l.room l.place × (l.place ≤ l.at + 21 * l.x-index)
