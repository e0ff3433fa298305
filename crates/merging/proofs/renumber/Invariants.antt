-- `merging::renumber` meets its contract. The invariant: the records in front of the place have their new serials, those behind it don't yet.
use Rattle.std.proofs.Common.{◌≡◌, ◌-◌, length, take, drop}
use Rattle.merging.specs.Merging.{listed_in}
use Rattle.merging.proofs.Renumbering.{Halfway}
use Rattle.merging.proofs.renumber.Given as goal

abbrev pub invariant-loop-place : goal.invariant-loop-place
invariant-loop-place l =
    Halfway (listed_in (take l.n l.initial.room)).records l.first (drop l.n l.initial.room) l.n l.room l.serial l.place × (length l.room ≡ length l.initial.room)

abbrev pub decreases-loop-place : goal.decreases-loop-place
decreases-loop-place l = l.n - l.place
