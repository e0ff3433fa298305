use Rattle.std.proofs.Common.{ℕ, ◌≡◌, ◌<◌, length, get_or}
use Rattle.closeouts.specs.Losses.{loss_in, loss_count}
use Rattle.closeouts.proofs.losses.list.Given as goal

abbrev pub invariant-loop-i : goal.invariant-loop-i
invariant-loop-i l = (l.count ≡ loss_count (length l.bytes)) × (length l.list ≡ 256) × ((j : ℕ) → j < l.i → get_or l.list j 0 ≡ loss_in l.bytes j)
