-- The largest number that passes, found from above.
use mathlib.Core.Bool.{Bool, true, false}
use mathlib.Core.Path.{◌≡◌, ◌∙◌}
use Prim.Native.Nat.{ℕ, zero, suc, ◌≤◌, ◌<◌}
use native.Mathlib.Decide.{ℕ_discrete}
use native.Mathlib.Omega.{arith}
use Rattle.sums.specs.Choice.{pick}
use Rattle.sums.proofs.Choices.{pick_yes, pick_no}
use Rattle.passing.specs.Most.{largest_to}

-- it is a where a passes, or is 0, and nothing above a does
pub largest-is : (n a : ℕ) (passes : ℕ → Bool) → a ≤ n → (0 < a → passes a ≡ true) → ((x : ℕ) → a < x → x ≤ n → passes x ≡ false) → largest_to n passes ≡ a
unfolding largest_to
largest-is zero a passes l h k = omega arith
largest-is (suc n) a passes l h k = by (ℕ_discrete a (suc n)) (λ m. largest-is n a passes m h (λ x p q. k x p (omega arith)))
  where
    by : Dec (a ≡ suc n) → (a ≤ n → largest_to n passes ≡ a) → pick (passes (suc n)) (suc n) (largest_to n passes) ≡ a
    by (yes e) below = pick_yes (passes (suc n)) _ _ (rw (← e) (h (omega arith))) ∙ omega arith
    by (no e) below = pick_no (passes (suc n)) _ _ (k (suc n) (omega arith) (omega arith)) ∙ below (omega arith)
