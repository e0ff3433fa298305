-- A signed figure by its two parts, what is payable and what is receivable: one of them is 0, and a sum's parts differ as much as those of its figures.
use mathlib.Core.Bool.{Bool, true, false, ◌&&◌, false≢true}
use mathlib.Core.Logic.{◌⊎◌, inl, inr}
use mathlib.Core.Path.{◌≡◌, refl}
use Prim.Native.Nat.{ℕ, suc, ◌+◌, ◌^◌, ◌≤◌, ◌<◌}
use native.Mathlib.Omega.{arith}
use borrow.Author.Tests.{ltb-true, ltb-false, leb-true}
use lib.Dec.{T, ltb}
use lib.IntN.{ℤ, pos, negsuc, nat_abs, sub_ℕ, ◌+ℤ◌, +ℤ_idr}
use lib.Signed.{mag, le_z, lt_z, non_neg}
use mir.Facts.{to_z-of_z}
use mir.Syntax.{w64}
use mir.Val.{SFits, of_z, to_z}
use Rattle.sums.proofs.Choices.{and_split}
use Rattle.rows.specs.Rows.{ceiling}
use Rattle.exposure.specs.Exposures.{in_range, all_in_range, total_of, payable_of, answer, exposure_of, intraday_of}

and-true : (t : Bool) → (t && true) ≡ t
and-true true = refl
and-true false = refl

abbrev pub receivable_of : ℤ → ℕ
receivable_of (pos n) = 0
receivable_of (negsuc n) = suc n

pub one_side : (z : ℤ) → (payable_of z ≡ 0) ⊎ (receivable_of z ≡ 0)
one_side (pos n) = inr refl
one_side (negsuc n) = inl refl

difference : (a b : ℕ) → payable_of (sub_ℕ a b) + b ≡ receivable_of (sub_ℕ a b) + a
difference a b = by (ltb a b) refl
  where
    by : (t : Bool) → ltb a b ≡ t → payable_of (sub_ℕ a b) + b ≡ receivable_of (sub_ℕ a b) + a
    by true e = let h = ltb-true a b e in rw e (omega arith)
    by false e = let h = ltb-false a b e in rw e (omega arith)

pub sum-parts : (a b : ℤ) → payable_of (a +ℤ b) + (receivable_of a + receivable_of b) ≡ receivable_of (a +ℤ b) + (payable_of a + payable_of b)
sum-parts (pos a) (pos b) = omega arith
sum-parts (pos a) (negsuc b) = omega (arith, difference a (suc b))
sum-parts (negsuc a) (pos b) = omega (arith, difference b (suc a))
sum-parts (negsuc a) (negsuc b) = omega arith

-- both parts are at most n
pub record Within (z : ℤ) (n : ℕ) : Type 0 where
  pub payable : payable_of z ≤ n
  pub receivable : receivable_of z ≤ n

pub plus-within : {a b : ℤ} (m n : ℕ) → Within a m → Within b n → Within (a +ℤ b) (m + n)
plus-within {a} {b} m n s t = by (one_side (a +ℤ b))
  where
    by : (payable_of (a +ℤ b) ≡ 0) ⊎ (receivable_of (a +ℤ b) ≡ 0) → Within (a +ℤ b) (m + n)
    by (inl e) = record { payable = omega arith; receivable = omega (arith, sum-parts a b, s.receivable, t.receivable) }
    by (inr e) = record { payable = omega (arith, sum-parts a b, s.payable, t.payable); receivable = omega arith }

-- "from minus the ceiling to the ceiling"
pub range-within : (z : ℤ) → in_range z ≡ true → Within z ceiling
range-within (pos n) e = record { payable = leb-true n ceiling e; receivable = omega arith }
range-within (negsuc n) e = record { payable = omega arith; receivable = omega (arith, leb-true n 9999999999999 (and_split (le_z (negsuc 9999999999999) (negsuc n)) true e).0) }

-- such figures fit their words
pub within-fits : (z : ℤ) (n : ℕ) → Within z n → n < 2 ^ 63 → SFits w64 z
within-fits (pos k) n w h = record { sfits = omega (arith, w.payable) }
within-fits (negsuc k) n w h = record { sfits = omega (arith, w.receivable) }

-- above 0, and not
pub above : (z : ℤ) → lt_z (pos 0) z ≡ true → T (non_neg z) × (nat_abs z ≡ payable_of z)
above (pos n) e = (tt, refl)
above (negsuc n) e = absurd (false≢true e)

pub not-above : (z : ℤ) → lt_z (pos 0) z ≡ false → 0 ≡ payable_of z
not-above (pos n) e = omega (arith, ltb-false 0 n e)
not-above (negsuc n) e = refl

-- the four figures of a client
module _ (premium loss exercise settlement : ℤ) (ranged : all_in_range premium loss exercise settlement ≡ true) where
  first_three : (in_range premium && in_range loss && in_range exercise) ≡ true
  first_three = (and_split _ _ ranged).0

  first_two : (in_range premium && in_range loss) ≡ true
  first_two = (and_split _ _ first_three).0

  pub two-within : Within (premium +ℤ loss) (ceiling + ceiling)
  two-within =
      let s = and_split (in_range premium) (in_range loss) first_two in
      plus-within ceiling ceiling (range-within premium s.0) (range-within loss s.1)

  pub three-within : Within (premium +ℤ loss +ℤ exercise) (ceiling + ceiling + ceiling)
  three-within = plus-within (ceiling + ceiling) ceiling two-within (range-within exercise (and_split (in_range premium && in_range loss) (in_range exercise) first_three).1)

  pub four-within : Within (total_of premium loss exercise settlement) (ceiling + ceiling + ceiling + ceiling)
  four-within =
      plus-within (ceiling + ceiling + ceiling) ceiling three-within
      (range-within settlement (and_split (in_range premium && in_range loss && in_range exercise) (in_range settlement) ranged).1)

-- a figure as it is read again
pub read_again : (z : ℤ) → mag z < 2 ^ 63 → to_z w64 (of_z w64 z) ≡ z
read_again z h = to_z-of_z {w = w64} {z = z} (record { sfits = h })

-- no exercise and no final settlement: the two figures alone
pub nothing-added : (premium loss : ℤ) → exposure_of premium loss (pos 0) (pos 0) ≡ intraday_of premium loss
unfolding exposure_of intraday_of
nothing-added premium loss =
    (λ i. answer (and-true (and-true (in_range premium && in_range loss) i) i) (+ℤ_idr (+ℤ_idr (premium +ℤ loss) i) i))
