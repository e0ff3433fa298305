-- The row that a number names.
use mathlib.Core.List.{List}
use mathlib.Core.Path.{◌≡◌, refl}
use Prim.Native.Nat.{ℕ, ◌+◌, ◌-◌, ◌≤◌, ◌<◌}
use native.Mathlib.Omega.{arith}
use native.Mathlib.Decide.{ℕ_discrete, dec_lt}
use lib.Dec.{eqb}
use lib.ListN.{get_or}
use borrow.Author.Tests.{eq-eqb, ne_eqb, eqb-true}
use Rattle.sums.proofs.Least.{least-none, least-is, least-most, least-below}
use Rattle.rows.specs.Rows.{place_among}
use Rattle.lookup.specs.Places.{Rising, Near}

module _ (numbers : List ℕ) (count number : ℕ) where
  pub place-most : place_among numbers count number ≤ count
  unfolding place_among
  place-most = least-most count (λ i. eqb (get_or numbers i 0) number)

  -- the row at its place has it
  pub place-has : place_among numbers count number < count → get_or numbers (place_among numbers count number) 0 ≡ number
  unfolding place_among
  place-has l = eqb-true _ number (least-below count (λ i. eqb (get_or numbers i 0) number) l)

  -- no row has it
  pub place_none : ((i : ℕ) → i < count → get_or numbers i 0 ≡ number → ⊥) → place_among numbers count number ≡ count
  unfolding place_among
  place_none h = least-none count (λ i. eqb (get_or numbers i 0) number) (λ i l. ne_eqb _ number (h i l))

  -- the row at place i has it
  pub place_is : Rising numbers count → (i : ℕ) → i < count → get_or numbers i 0 ≡ number → place_among numbers count number ≡ i
  unfolding place_among
  place_is r i l e =
      least-is count (λ j. eqb (get_or numbers j 0) number) i l (eq-eqb _ number e) (λ j m. ne_eqb _ number (λ q. absurd (omega (arith, r.up j i m l))))

-- each row held is the one that its number names
pub place_found : (numbers : List ℕ) (count : ℕ) → Rising numbers count → (i : ℕ) → i < count → place_among numbers count (get_or numbers i 0) ≡ i
place_found numbers count r i l = place_is numbers count (get_or numbers i 0) r i l refl

-- A search by halves: of twice step places from lo on the last of the first half is looked at.
module _ (numbers : List ℕ) (count number : ℕ) (r : Rising numbers count) where
  module _ (lo step : ℕ) (some : 0 < step) (near : Near numbers count number lo (step + step)) where
    pub near_up : lo + step - 1 < count → get_or numbers (lo + step - 1) 0 < number → Near numbers count number (lo + step) step
    near_up l q = record { inside = omega (arith, near.inside); there = λ i k e. (by i k e (dec_lt i (lo + step)), omega (arith, (near.there i k e).1)) }
      where
        low : (i : ℕ) → i < lo + step → Dec (i ≡ lo + step - 1) → get_or numbers i 0 < number
        low i m (yes z) = rw z q
        low i m (no z) = omega (arith, r.up i (lo + step - 1) (omega arith) l)

        by : (i : ℕ) → i < count → get_or numbers i 0 ≡ number → Dec (i < lo + step) → lo + step ≤ i
        by i k e (yes m) = absurd (omega (arith, low i m (ℕ_discrete i (lo + step - 1))))
        by i k e (no m) = omega arith

    pub near-stay : (lo + step - 1 < count → number ≤ get_or numbers (lo + step - 1) 0) → Near numbers count number lo step
    near-stay q = record { inside = omega (arith, near.inside); there = λ i k e. ((near.there i k e).0, by i k e (dec_lt i (lo + step))) }
      where
        by : (i : ℕ) → i < count → get_or numbers i 0 ≡ number → Dec (i < lo + step) → i < lo + step
        by i k e (yes m) = m
        by i k e (no m) = absurd (omega (arith, r.up (lo + step - 1) i (omega arith) k, q (omega arith)))

-- one place is left, and it has another number
pub near_none : (numbers : List ℕ) (count number lo : ℕ) → Near numbers count number lo 1 → (lo < count → get_or numbers lo 0 ≡ number → ⊥)
    → place_among numbers count number ≡ count
near_none numbers count number lo near other =
    place_none numbers count number (λ i l e. let z : i ≡ lo = omega (arith, near.there i l e) in other (omega arith) (rw z at e))
