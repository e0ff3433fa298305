-- What each account's four amounts are, by its sort, and that they add up to its loss.
use mathlib.Core.Path.{◌≡◌}
use mathlib.Core.Bool.{true, false}
use Prim.Native.Nat.{ℕ, ◌+◌, ◌-◌, ◌≤◌, min}
use native.Mathlib.Omega.{arith}
use Rattle.sums.proofs.Sums.{only-most}
use Rattle.rows.specs.View.{View, is_client, is_client_of}
use Rattle.rows.proofs.BySort.{client-sort, client-tm}
use Rattle.closeout.specs.Round.{own, short, left_tm, from_tm, asked_of_cm, left_cm, from_cm, unpaid}

-- what a payer with b in hand leaves of a
pub beyond-min : (a b : ℕ) → a - min a b ≡ a - b
beyond-min a b = omega arith

-- own, the TM's (t), the CM's (d in hand) and the rest of a loss a with c in hand
paid : (a c t d : ℕ) → t ≤ a - min a c → min a c + t + min (a - min a c - t) d + (a - min a c - t - d) ≡ a
paid a c t d h = omega arith

module _ (v : View) (l : ℕ → ℕ) where
  pub from_tm-other : (i : ℕ) → is_client v i ≡ false → from_tm v l i ≡ 0
  unfolding from_tm
  from_tm-other i e = rw e

  pub from_tm-client : (i : ℕ) → v.sort i ≡ 2 → from_tm v l i ≡ min (short v l i) (left_tm v l (v.tm i) i)
  unfolding from_tm
  from_tm-client i e = rw e

  from_tm-le : (i : ℕ) → from_tm v l i ≤ short v l i
  unfolding from_tm
  from_tm-le i = omega (arith, only-most (is_client v i) (min (short v l i) (left_tm v l (v.tm i) i)))

  -- what an account other than a client asks of the CM's collateral
  pub asked-other : (i : ℕ) → is_client v i ≡ false → asked_of_cm v l i ≡ l i - v.collateral i
  unfolding asked_of_cm
  asked-other i e = omega (arith, from_tm-other i e)

  pub asked-client : (t i : ℕ) → is_client_of v t i ≡ true → asked_of_cm v l i ≡ short v l i - left_tm v l t i
  unfolding asked_of_cm from_tm
  asked-client t i e = rw (← client-tm v t i e) (rw (client-sort v t i e) (beyond-min (short v l i) (left_tm v l (v.tm i) i)))

  -- "They add up to the loss."
  pub amounts-add-up : (i : ℕ) → own v l i + from_tm v l i + from_cm v l i + unpaid v l i ≡ l i
  unfolding asked_of_cm from_cm unpaid
  amounts-add-up i = paid (l i) (v.collateral i) (from_tm v l i) (left_cm v l i) (from_tm-le i)
