-- A sum and a test over rows of which those that are not kept count for nothing.
use mathlib.Core.Bool.{Bool, true, false, ◌||◌, or-false}
use mathlib.Core.Path.{◌≡◌, refl, sym, ap, ◌∙◌}
use Prim.Native.Nat.{ℕ, zero, suc, ◌+◌, ◌<◌}
use native.Mathlib.Omega.{arith}
use Rattle.sums.specs.Sum.{sum, any}
use Rattle.sums.proofs.Sums.{sum_step, any_step}
use Rattle.gaps.specs.Gaps.{place_after}
use Rattle.gaps.proofs.Places.{place_none, place-on, place-off}

module _ (keep : ℕ → Bool) where
  -- THE LAW: a sum in which the rows that are not kept count for nothing, over the places after
  pub sum_kept : (n : ℕ) (f g : ℕ → ℕ) → ((i : ℕ) → i < n → keep i ≡ true → g (place_after keep i) ≡ f i) → ((i : ℕ) → i < n → keep i ≡ false → f i ≡ 0)
      → sum (place_after keep n) g ≡ sum n f
  unfolding sum
  sum_kept zero f g h z = ap (λ k. sum k g) (place_none keep)
  sum_kept (suc n) f g h z = by (keep n) refl (sum_kept n f g (λ i l. h i (omega arith)) (λ i l. z i (omega arith)))
    where
      by : (t : Bool) → keep n ≡ t → sum (place_after keep n) g ≡ sum n f → sum (place_after keep (suc n)) g ≡ sum n f + f n
      by true e r = ap (λ k. sum k g) (place-on keep n e) ∙ sum_step (place_after keep n) g ∙ omega (arith, r, h n (omega arith) e)
      by false e r = ap (λ k. sum k g) (place-off keep n e) ∙ omega (arith, r, z n (omega arith) e)

  -- the same of a test
  pub any-kept : (n : ℕ) (f g : ℕ → Bool) → ((i : ℕ) → i < n → keep i ≡ true → g (place_after keep i) ≡ f i) → ((i : ℕ) → i < n → keep i ≡ false → f i ≡ false)
      → any (place_after keep n) g ≡ any n f
  unfolding any
  any-kept zero f g h z = ap (λ k. any k g) (place_none keep)
  any-kept (suc n) f g h z = by (keep n) refl (any-kept n f g (λ i l. h i (omega arith)) (λ i l. z i (omega arith)))
    where
      by : (t : Bool) → keep n ≡ t → any (place_after keep n) g ≡ any n f → any (place_after keep (suc n)) g ≡ (any n f || f n)
      by true e r = ap (λ k. any k g) (place-on keep n e) ∙ any_step (place_after keep n) g ∙ rw (r, h n (omega arith) e)
      by false e r = ap (λ k. any k g) (place-off keep n e) ∙ r ∙ sym (ap (λ x. any n f || x) (z n (omega arith) e) ∙ or-false (any n f))
