use Rattle.std.proofs.Common.{ℕ, ◌≡◌, ltb, length, get_or}
use Rattle.sums.specs.Sum.{all}
use Rattle.rows.specs.Rows.{place_among}
use Rattle.closeouts.proofs.losses.Losses.all_held.Given as goal

abbrev pub invariant-loop-i : goal.invariant-loop-i
invariant-loop-i l = l.ok ≡ all l.i (λ (j : ℕ). ltb (place_among l.rows (length l.rows) (get_or l.self.numbers j 0)) (length l.rows))
