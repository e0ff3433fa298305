-- Nobody's collateral pays more than there is.
use mathlib.Core.Path.{◌≡◌, refl}
use mathlib.Core.Bool.{Bool, true, false}
use Prim.Native.Nat.{ℕ, zero, suc, ◌+◌, ◌-◌, ◌≤◌, ◌<◌, min}
use native.Mathlib.Omega.{arith}
use Rattle.sums.specs.Sum.{sum, only}
use Rattle.rows.specs.View.{View, is_client_of, of_clients}
use Rattle.rows.proofs.BySort.{client-sort, client-tm}
use Rattle.closeout.specs.Round.{own, short, left_tm, from_tm, asked_of_cm, from_cm}
use Rattle.closeout.proofs.Payments.{from_tm-client}

-- a fund of r pays each want w, in rising order, from what is left: never more than r in all
spent : (n : ℕ) (w p : ℕ → ℕ) (r : ℕ) → ((i : ℕ) → i < n → p i ≤ min (w i) (r - sum i w)) → sum n p ≤ min (sum n w) r
unfolding sum
spent zero w p r h = omega arith
spent (suc n) w p r h = omega (arith, spent n w p r (λ i m. h i (omega arith)), h n (omega arith))

module _ (v : View) (l : ℕ → ℕ) where
  -- a TM's own loss and what its clients take
  pub TM-pays : (t : ℕ) → own v l t + of_clients v t (from_tm v l) ≤ v.collateral t
  TM-pays t =
      omega (
        arith,
        spent v.count (λ i. only (is_client_of v t i) (short v l i)) (λ i. only (is_client_of v t i) (from_tm v l i))
            (v.collateral t - own v l t) (λ i m. by i (is_client_of v t i) refl),
      )
    where
      by : (i : ℕ) (b : Bool) → is_client_of v t i ≡ b → only b (from_tm v l i) ≤ min (only b (short v l i)) (left_tm v l t i)
      by i true e = rw (from_tm-client v l i (client-sort v t i e), client-tm v t i e) (omega arith)
      by i false e = omega arith

  -- the CM's own loss and what all others take
  pub CM-pays : own v l 0 + sum v.count (from_cm v l) ≤ v.collateral 0
  unfolding from_cm
  CM-pays = omega (arith, spent v.count (asked_of_cm v l) (from_cm v l) (v.collateral 0 - own v l 0) (λ i m. omega arith))
