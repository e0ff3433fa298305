-- K1's two rounds together: the columns add up, nobody pays more than there is, what is left open in all is at most the shortfall
-- and the losses beyond the margins, and where there is no shortfall an account's is at most its own part beyond its margin.
use mathlib.Core.Path.{◌≡◌, ◌∙◌, ap}
use mathlib.Core.Bool.{Bool, true, false, not}
use Prim.Native.Nat.{ℕ, ◌+◌, ◌-◌, ◌*◌, ◌≤◌, ◌<◌, min}
use native.Mathlib.Omega.{arith}
use Rattle.sums.specs.Sum.{sum, only}
use Rattle.sums.proofs.Sums.{sum-le, sum-add, sum-eq, sum-zero, sum-most, only-add}
use Rattle.rows.specs.View.{View, is_client, is_client_of, of_clients, need_cm, need, free}
use Rattle.rows.specs.Facts.{Shaped}
use Rattle.rows.proofs.Cover.{Covered}
use Rattle.closeout.specs.Round.{from_tm, from_cm, unpaid}
use Rattle.closeout.specs.Bound.{beyond}
use Rattle.closeout.proofs.Payments.{amounts-add-up, from_tm-other}
use Rattle.closeout.proofs.Limits.{TM-pays, CM-pays}
use Rattle.closeout.proofs.ZeroColumns.{CM-third-is-0}
use Rattle.closeout.specs.Columns.{is_client_or_cp, own_payment, purses₁, part₁, paid₁, purses₂, part₂, own_column, tm_column, cm_column, uncovered}
use Rattle.closeout.proofs.RoundOne.{round-one-open, pays-all, TM-blocked, CM-blocked}

rest_of : (a b c u n : ℕ) → a + b + c + u ≡ n → n - a - b - c ≡ u
rest_of a b c u n e = omega arith

own_alone : (a x y : ℕ) → a + min x 0 + min y 0 ≡ a
own_alone a x y = omega arith

-- a loss a of margin m, of which o is paid before the rounds: round one pays p of its part within the margin and leaves u
asked-again : (a m o p u : ℕ) → p + u ≡ min a m - o → a - o - p ≤ (a - m) + u
asked-again a m o p u e = omega arith

at-most-rest : (u p r : ℕ) → u ≤ p → p ≤ r → u ≤ r
at-most-rest u p r h k = omega arith

-- what is taken within the blocked part of c, and then within the free part
both-rounds : (a o₁ s₁ o₂ s₂ f s n c : ℕ) → a ≡ 0 → o₁ + s₁ ≤ min n c → o₂ + s₂ ≤ f → f ≡ c - min n c → s ≡ s₁ + s₂ → (a + o₁ + o₂) + s ≤ c
both-rounds a o₁ s₁ o₂ s₂ f s n c z p q e d = omega arith

module _ (v : View) (l : ℕ → ℕ) where
  own-payment-le : (i : ℕ) → own_payment v l i ≤ l i
  own-payment-le i = by (is_client_or_cp v i)
    where
      by : (t : Bool) → only t (min (l i) (v.collateral i)) ≤ l i
      by true = omega arith
      by false = omega arith

  paid-le : (i : ℕ) → paid₁ v l i ≤ part₁ v l i
  unfolding paid₁
  paid-le i = omega (arith, amounts-add-up (purses₁ v) (part₁ v l) i)

  all_paid : (i : ℕ) → own_column v l i + tm_column v l i + cm_column v l i + unpaid (purses₂ v) (part₂ v l) i ≡ l i
  unfolding own_column tm_column cm_column paid₁ part₂
  all_paid i = omega (arith, own-payment-le i, amounts-add-up (purses₁ v) (part₁ v l) i, amounts-add-up (purses₂ v) (part₂ v l) i)

  -- the rest is what round two leaves unpaid
  pub the_rest : (i : ℕ) → uncovered v l i ≡ unpaid (purses₂ v) (part₂ v l) i
  unfolding uncovered
  the_rest i = rest_of _ _ _ _ _ (all_paid i)

  -- "They add up to the loss."
  pub adds-up : (i : ℕ) → own_column v l i + tm_column v l i + cm_column v l i + uncovered v l i ≡ l i
  adds-up i = omega (arith, the_rest i, all_paid i)

  -- what the first i leave open, where no loss passes k
  pub open-most : (k i : ℕ) → ((j : ℕ) → j < i → l j ≤ k) → sum i (uncovered v l) ≤ i * k
  open-most k i h = sum-most i k (uncovered v l) (λ j m. omega (arith, adds-up j, h j m))

  -- "own payment of clients and CPs stays"
  pub pays-own : (i : ℕ) → is_client_or_cp v i ≡ true → own_column v l i ≡ min (l i) (v.collateral i)
  unfolding own_column
  pays-own i e = rw e (own_alone (min (l i) (v.collateral i)) _ _)

  -- the TM column of a TM, a CP and the CM is 0, and so is the CM's third
  pub no-TM : (i : ℕ) → is_client v i ≡ false → tm_column v l i ≡ 0
  unfolding tm_column
  no-TM i e = omega (arith, from_tm-other (purses₁ v) (part₁ v l) i e, from_tm-other (purses₂ v) (part₂ v l) i e)

  pub CM's-third : cm_column v l 0 ≡ 0
  unfolding cm_column
  CM's-third = omega (arith, CM-third-is-0 (purses₁ v) (part₁ v l), CM-third-is-0 (purses₂ v) (part₂ v l))

module _ (v : View) (s : Shaped v) (l : ℕ → ℕ) where
  -- a TM's own loss and what its clients take, in both rounds
  pub TM-has : (t : ℕ) → v.sort t ≡ 1 → own_column v l t + of_clients v t (tm_column v l) ≤ v.collateral t
  unfolding own_column tm_column
  TM-has t e =
      both-rounds _ _ _ _ _ (only (not (is_client_or_cp v t)) (free v t)) _ (need v t) (v.collateral t) (ap (λ x. only x (min (l t) (v.collateral t))) member)
      (TM-blocked v s l t e) (TM-pays (purses₂ v) (part₂ v l) t) (ap (λ x. only (not x) (free v t)) member) parts
    where
      member : is_client_or_cp v t ≡ false
      member = rw e

      parts : of_clients v t (λ i. from_tm (purses₁ v) (part₁ v l) i + from_tm (purses₂ v) (part₂ v l) i)
          ≡ of_clients v t (from_tm (purses₁ v) (part₁ v l)) + of_clients v t (from_tm (purses₂ v) (part₂ v l))
      parts =
          sum-eq v.count (λ i. only (is_client_of v t i) (from_tm (purses₁ v) (part₁ v l) i + from_tm (purses₂ v) (part₂ v l) i))
          (λ i. only (is_client_of v t i) (from_tm (purses₁ v) (part₁ v l) i) + only (is_client_of v t i) (from_tm (purses₂ v) (part₂ v l) i))
          (λ i m. only-add (is_client_of v t i) (from_tm (purses₁ v) (part₁ v l) i) (from_tm (purses₂ v) (part₂ v l) i))
          ∙ sum-add v.count (λ i. only (is_client_of v t i) (from_tm (purses₁ v) (part₁ v l) i)) (λ i. only (is_client_of v t i) (from_tm (purses₂ v) (part₂ v l) i))

  -- the CM's own loss and what all others take
  pub CM-has : own_column v l 0 + sum v.count (cm_column v l) ≤ v.collateral 0
  unfolding own_column cm_column
  CM-has =
      both-rounds _ _ _ _ _ (only (not (is_client_or_cp v 0)) (free v 0)) _ (need v 0) (v.collateral 0) (ap (λ x. only x (min (l 0) (v.collateral 0))) member)
      (CM-blocked v s l) (CM-pays (purses₂ v) (part₂ v l)) (ap (λ x. only (not x) (free v 0)) member)
      (sum-add v.count (from_cm (purses₁ v) (part₁ v l)) (from_cm (purses₂ v) (part₂ v l)))
    where
      member : is_client_or_cp v 0 ≡ false
      member = rw s.top

  -- "each account's uncovered part is at most its own loss beyond its own margin"
  pub each-own : Covered v → (i : ℕ) → i < v.count → uncovered v l i ≤ beyond v l i
  unfolding part₂
  each-own c i m = omega (arith, the_rest v l i, amounts-add-up (purses₂ v) (part₂ v l) i, pays-all v s l c i m, own-payment-le v l i)

  -- what round one leaves open is asked again in round two, with the part beyond the margin
  still_open : (i : ℕ) → uncovered v l i ≤ beyond v l i + unpaid (purses₁ v) (part₁ v l) i
  unfolding part₂ paid₁
  still_open i = at-most-rest _ (part₂ v l i) _ round-two (asked-again (l i) (v.margin i) (own_payment v l i) _ _ (amounts-add-up (purses₁ v) (part₁ v l) i))
    where
      round-two : uncovered v l i ≤ part₂ v l i
      round-two = omega (arith, the_rest v l i, amounts-add-up (purses₂ v) (part₂ v l) i)

  -- K8: "the total uncovered is at most the shortfall plus the losses beyond margins"
  pub in_all : sum v.count (uncovered v l) ≤ (need_cm v - v.collateral 0) + sum v.count (beyond v l)
  in_all =
      omega (
        arith,
        sum-le v.count (uncovered v l) (λ i. beyond v l i + unpaid (purses₁ v) (part₁ v l) i) (λ i m. still_open i),
        sum-add v.count (beyond v l) (unpaid (purses₁ v) (part₁ v l)),
        round-one-open v s l,
      )

  pub none_within : Covered v → ((i : ℕ) → i < v.count → l i ≤ v.margin i) → sum v.count (uncovered v l) ≡ 0
  none_within c h = omega (arith, in_all, sum-zero v.count (beyond v l) (λ i m. omega (arith, h i m)))
