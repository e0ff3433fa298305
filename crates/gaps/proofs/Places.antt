-- Where kept rows stand after the gaps are closed.
use mathlib.Core.Bool.{Bool, true, false}
use mathlib.Core.Path.{◌≡◌, refl}
use Prim.Native.Nat.{ℕ, zero, suc, ◌+◌, ◌≤◌, ◌<◌}
use native.Mathlib.Omega.{arith}
use native.Mathlib.Decide.{ℕ_discrete, dec_lt}
use Rattle.sums.specs.Sum.{sum, only}
use Rattle.sums.proofs.Sums.{only-most, sum-most}
use Rattle.gaps.specs.Gaps.{place_after}

module _ (keep : ℕ → Bool) where
  pub place_none : place_after keep 0 ≡ 0
  unfolding place_after sum
  place_none = refl

  -- one row more
  pub place-step : (i : ℕ) → place_after keep (suc i) ≡ place_after keep i + only (keep i) 1
  unfolding place_after sum
  place-step i = refl

  pub place-on : (i : ℕ) → keep i ≡ true → place_after keep (suc i) ≡ place_after keep i + 1
  place-on i e = rw e at (place-step i)

  pub place-off : (i : ℕ) → keep i ≡ false → place_after keep (suc i) ≡ place_after keep i
  place-off i e = let s = rw e at (place-step i) in omega arith

  pub place-le : (i j : ℕ) → i ≤ j → place_after keep i ≤ place_after keep j
  place-le i zero l = let e : i ≡ 0 = omega arith in rw e (omega arith)
  place-le i (suc j) l = by (ℕ_discrete i (suc j)) (λ m. place-le i j m)
    where
      by : Dec (i ≡ suc j) → (i ≤ j → place_after keep i ≤ place_after keep j) → place_after keep i ≤ place_after keep (suc j)
      by (yes e) r = rw e (omega arith)
      by (no e) r = omega (arith, r (omega arith), place-step j)

  -- kept rows stay in their order
  pub place-lt : (i j : ℕ) → keep i ≡ true → i < j → place_after keep i < place_after keep j
  place-lt i j e l = omega (arith, place-on i e, place-le (suc i) j (omega arith))

  -- a lower place is a row's before it
  pub place-order : (i j : ℕ) → place_after keep i < place_after keep j → i < j
  place-order i j l = by (dec_lt i j)
    where
      by : Dec (i < j) → i < j
      by (yes m) = m
      by (no m) = absurd (omega (arith, place-le j i (omega arith)))

  -- none moves up
  pub place-most : (i : ℕ) → place_after keep i ≤ i
  unfolding place_after
  place-most i = omega (arith, sum-most i 1 (λ j. only (keep j) 1) (λ j l. only-most (keep j) 1))

  -- two kept rows have two places
  pub place-apart : (a b : ℕ) → keep a ≡ true → keep b ≡ true → (a ≡ b → ⊥) → place_after keep a ≡ place_after keep b → ⊥
  place-apart a b ka kb ne q = by (dec_lt a b)
    where
      by : Dec (a < b) → ⊥
      by (yes m) = omega (arith, place-lt a b ka m)
      by (no m) = omega (arith, place-lt b a kb (omega arith))

-- every place below is a kept row's
pub record At (keep : ℕ → Bool) (n j : ℕ) : Type 0 where
  pub row : ℕ
  pub below : row < n
  pub kept : keep row ≡ true
  pub place : place_after keep row ≡ j

pub at_place : (keep : ℕ → Bool) (n j : ℕ) → j < place_after keep n → At keep n j
at_place keep zero j l = absurd (omega (arith, place_none keep))
at_place keep (suc n) j l = by (keep n) refl (dec_lt j (place_after keep n)) (λ m. at_place keep n j m)
  where
    up : At keep n j → At keep (suc n) j
    up a = record { row = a.row; below = omega (arith, a.below); kept = a.kept; place = a.place }

    by : (t : Bool) → keep n ≡ t → Dec (j < place_after keep n) → (j < place_after keep n → At keep n j) → At keep (suc n) j
    by t e (yes m) r = up (r m)
    by true e (no m) r = record { row = n; below = omega arith; kept = e; place = omega (arith, place-on keep n e) }
    by false e (no m) r = absurd (omega (arith, place-off keep n e))
