use Rattle.std.proofs.Common.{ℕ, ◌≡◌, ◌<◌, length, take, get_or}
use Rattle.closeouts.specs.LossLines.{loss_for}
use Rattle.closeouts.proofs.losses.Losses.row_losses.Given as goal

abbrev pub invariant-loop-i : goal.invariant-loop-i
invariant-loop-i l = (length l.list ≡ 256) × ((j : ℕ) → j < l.i → get_or l.list j 0 ≡ loss_for (take l.self.count l.self.numbers) (take l.self.count l.self.list) (get_or l.rows j 0))
