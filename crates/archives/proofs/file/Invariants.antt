-- `archives::file` meets its contract. The invariant: the room holds the file with the lines of the first i entries.
use mathlib.Core.Path.{◌≡◌}
use Prim.Native.Nat.{◌+◌, ◌*◌, ◌≤◌}
use lib.ListN.{length, take}
use Rattle.archives.specs.Files.{filed_to}
use Rattle.archives.specs.Inner.{Holds}
use Rattle.archives.proofs.file.Given as goal

abbrev pub invariant-loop-i : goal.invariant-loop-i
invariant-loop-i l =
    Holds l.room l.count (filed_to (take l.before l.initial.room) l.entries l.i)
    × (l.count ≤ l.before + 19 * l.i)
    × (length l.room ≡ length l.initial.room)
