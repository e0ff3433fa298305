-- `exposure::lists::put_all` meets its contract.
use mathlib.Core.Path.{◌≡◌}
use Prim.Native.Nat.{ℕ, ◌*◌, ◌<◌}
use lib.ListN.{length, get_or}
use Rattle.exposure.specs.Lists.{clients_in, number_in_room}
use Rattle.exposure.proofs.lists.put_all.Given as goal

abbrev pub invariant-loop-i : goal.invariant-loop-i
invariant-loop-i l =
    (l.n ≡ clients_in l.form (length l.figures)) × (length l.room ≡ 2 * l.n) × ((k : ℕ) → k < 2 * l.i → get_or l.room k 0 ≡ number_in_room l.form l.figures k)
