-- `steps::following::collaterals` meets its contract. The invariant: the accounts passed have theirs.
use Rattle.std.proofs.Common.{◌≡◌, ℕ, ◌<◌, length, get_or}
use Rattle.steps.specs.Dues.{collateral_in}
use Rattle.steps.proofs.following.collaterals.Given as goal

abbrev pub invariant-loop-i : goal.invariant-loop-i
invariant-loop-i l =
    (length l.kept ≡ 256) × ((j : ℕ) → j < l.i → get_or l.kept j 0 ≡ collateral_in l.w j)
