-- Laws of what is payable.
use mathlib.Core.Bool.{true, false, false≢true}
use mathlib.Core.Logic.{◌⊎◌, inl, inr}
use mathlib.Core.Path.{◌≡◌}
use Prim.Native.Nat.{ℕ, ◌+◌, ◌≤◌}
use native.Mathlib.Omega.{arith}
use borrow.Author.Tests.{leb-true}
use lib.IntN.{ℤ, pos, negsuc, ◌+ℤ◌}
use lib.Signed.{le_z}
use Rattle.exposure.specs.Exposures.{total_of, payable_of}
use Rattle.exposure.proofs.Parts.{receivable_of, one_side, sum-parts}

-- a figure that is not above another
pub not-above-parts : (a b : ℤ) → le_z a b ≡ true → payable_of a + receivable_of b ≤ payable_of b + receivable_of a
not-above-parts (pos a) (pos b) e = omega (arith, leb-true a b e)
not-above-parts (pos a) (negsuc b) e = absurd (omega (arith, clash e))
  where
    clash : false ≡ true → ◌≡◌ {A = ℕ} 0 1
    clash q = absurd (false≢true q)
not-above-parts (negsuc a) (pos b) e = omega arith
not-above-parts (negsuc a) (negsuc b) e = omega (arith, leb-true b a e)

-- each of four figures not above the other's: neither is what is payable
pub payable-rises : (a b c d x y z w : ℤ) → le_z a x ≡ true → le_z b y ≡ true → le_z c z ≡ true → le_z d w ≡ true
    → payable_of (total_of a b c d) ≤ payable_of (total_of x y z w)
payable-rises a b c d x y z w p q r s = by (one_side (total_of a b c d)) (one_side (total_of x y z w))
  where
    low : payable_of (total_of a b c d) + (receivable_of a + receivable_of b + receivable_of c + receivable_of d)
        ≡ receivable_of (total_of a b c d) + (payable_of a + payable_of b + payable_of c + payable_of d)
    low = omega (arith, sum-parts a b, sum-parts (a +ℤ b) c, sum-parts (a +ℤ b +ℤ c) d)

    high : payable_of (total_of x y z w) + (receivable_of x + receivable_of y + receivable_of z + receivable_of w)
        ≡ receivable_of (total_of x y z w) + (payable_of x + payable_of y + payable_of z + payable_of w)
    high = omega (arith, sum-parts x y, sum-parts (x +ℤ y) z, sum-parts (x +ℤ y +ℤ z) w)

    by : (payable_of (total_of a b c d) ≡ 0) ⊎ (receivable_of (total_of a b c d) ≡ 0) → (payable_of (total_of x y z w) ≡ 0) ⊎ (receivable_of (total_of x y z w) ≡ 0)
        → payable_of (total_of a b c d) ≤ payable_of (total_of x y z w)
    by (inl e) o = omega arith
    by (inr e) (inl f) = omega (arith, low, high, not-above-parts a x p, not-above-parts b y q, not-above-parts c z r, not-above-parts d w s)
    by (inr e) (inr f) = omega (arith, low, high, not-above-parts a x p, not-above-parts b y q, not-above-parts c z r, not-above-parts d w s)
