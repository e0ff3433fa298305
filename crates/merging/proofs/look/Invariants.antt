-- `merging::look` meets its contract. The invariant: the records so far and those from the place on are the file's.
use Rattle.std.proofs.Common.{◌-◌, ◌≤◌, length}
use Rattle.merging.proofs.Listing.{Looking}
use Rattle.merging.proofs.look.Given as goal

abbrev pub invariant-loop-place : goal.invariant-loop-place
invariant-loop-place l = Looking l.file l.index l.place × (l.index ≤ l.place) × (l.place ≤ length l.file)

abbrev pub decreases-loop-place : goal.decreases-loop-place
decreases-loop-place l = length l.file - l.place
