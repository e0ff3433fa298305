-- One account further: what is left of each collateral after it.
use mathlib.Core.Path.{◌≡◌, refl}
use mathlib.Core.Bool.{Bool, true, false}
use Prim.Native.Nat.{ℕ, ◌+◌, ◌-◌, ◌<◌, min}
use native.Mathlib.Omega.{arith}
use borrow.Author.Tests.{eqb-true, eq-eqb}
use Rattle.sums.specs.Sum.{sum, only}
use Rattle.sums.proofs.Sums.{sum_step, sum-zero, only_zero}
use Rattle.rows.specs.View.{View, is_client, is_client_of}
use Rattle.rows.specs.Facts.{Shaped}
use Rattle.rows.proofs.BySort.{client-sort, client-tm}
use Rattle.closeout.specs.Round.{own, short, left_tm, from_tm, asked_of_cm, left_cm, from_cm}
use Rattle.closeout.proofs.Payments.{from_tm-other}

spend : (c w a : ℕ) → c - (w + a) ≡ (c - w) - min a (c - w)
spend c w a = omega arith

same : (a b : ℕ) → a - (b + 0) ≡ a - b
same a b = omega arith

-- who doesn't name t is not its client
pub not_named : (v : View) (t i : ℕ) → (v.tm i ≡ t → ⊥) → is_client_of v t i ≡ false
not_named v t i ne = by (is_client_of v t i) refl
  where
    by : (b : Bool) → is_client_of v t i ≡ b → is_client_of v t i ≡ false
    by true e = absurd (ne (client-tm v t i e))
    by false e = e

module _ (v : View) (l : ℕ → ℕ) where
  -- the CM's collateral: less what it pays of i's loss
  pub left_cm-step : (i : ℕ) → left_cm v l (i + 1) ≡ left_cm v l i - from_cm v l i
  unfolding from_cm
  left_cm-step i = rw (sum_step i (asked_of_cm v l)) (spend (v.collateral 0 - own v l 0) (sum i (asked_of_cm v l)) (asked_of_cm v l i))

  -- t's collateral after an account that is not its client
  pub left_tm-other : (t i : ℕ) → is_client_of v t i ≡ false → left_tm v l t (i + 1) ≡ left_tm v l t i
  left_tm-other t i e =
      rw (sum_step i (λ j. only (is_client_of v t j) (short v l j)))
      (rw e (same (v.collateral t - own v l t) (sum i (λ j. only (is_client_of v t j) (short v l j)))))

  left_tm-client : (i : ℕ) → v.sort i ≡ 2 → left_tm v l (v.tm i) (i + 1) ≡ left_tm v l (v.tm i) i - from_tm v l i
  unfolding from_tm
  left_tm-client i e =
      rw (sum_step i (λ j. only (is_client_of v (v.tm i) j) (short v l j)))
      (rw (e, eq-eqb (v.tm i) (v.tm i) refl)
      (spend (v.collateral (v.tm i) - own v l (v.tm i)) (sum i (λ j. only (is_client_of v (v.tm i) j) (short v l j))) (short v l i)))

  -- the collateral of the account that i names, whatever i's sort
  pub left_tm-named : (i : ℕ) → left_tm v l (v.tm i) (i + 1) ≡ left_tm v l (v.tm i) i - from_tm v l i
  left_tm-named i = by (is_client v i) refl
    where
      by : (b : Bool) → is_client v i ≡ b → left_tm v l (v.tm i) (i + 1) ≡ left_tm v l (v.tm i) i - from_tm v l i
      by true e = left_tm-client i (eqb-true (v.sort i) 2 e)
      by false e = omega (arith, left_tm-other (v.tm i) i (rw e), from_tm-other v l i e)

module _ (v : View) (s : Shaped v) (l : ℕ → ℕ) where
  -- no client comes before its TM
  pub left_tm-own : (t : ℕ) → t < v.count → left_tm v l t (t + 1) ≡ v.collateral t - own v l t
  left_tm-own t m =
      omega (
        arith,
        sum-zero (t + 1) (λ j. only (is_client_of v t j) (short v l j))
            (λ j q. only_zero (is_client_of v t j) (short v l j)
            (λ e. absurd (omega (arith, (s.tms j (omega arith) (client-sort v t j e)).0, client-tm v t j e)))),
      )
