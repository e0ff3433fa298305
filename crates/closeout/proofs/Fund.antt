-- One round's bound: what is left uncovered in all is at most the losses beyond the margins, and what the CM lacks.
use mathlib.Core.Path.{◌≡◌, refl, ◌∙◌}
use mathlib.Core.Bool.{Bool, true, false}
use Prim.Native.Nat.{ℕ, ◌+◌, ◌-◌, ◌≤◌, min}
use native.Mathlib.Omega.{arith}
use Rattle.sums.specs.Sum.{sum, only}
use Rattle.sums.proofs.Sums.{sum-le, sum-eq, sum-add, only-add, waterfall}
use Rattle.rows.specs.View.{View, is_tm, is_cp, is_client_of, members, of_clients, own_deemed, need_tm, deemed_tm, need_cm}
use Rattle.rows.specs.Facts.{Shaped}
use Rattle.rows.proofs.BySort.{members-le}
use Rattle.closeout.specs.Round.{own, short, left_tm, asked_of_cm, unpaid}
use Rattle.closeout.specs.Bound.{beyond}
use Rattle.closeout.proofs.Groups.{group, sum-by-groups}
use Rattle.closeout.proofs.Payments.{beyond-min, asked-other, asked-client}

-- what is left in the hand of a payer with b
in-hand : (a b : ℕ) → b - min a b ≡ b - a
in-hand a b = omega arith

-- a TM's loss a, collateral c and margin m; its clients' losses beyond their collateral s, beyond their margins b, and what
-- they are deemed d
pool : (a c m s b d : ℕ) → s ≤ b + d → (a - c) + (s - (c - min a c)) ≤ (a - m + b) + ((m + d) - min (m + d) c)
pool a c m s b d h = rw (in-hand a c, beyond-min (m + d) c) (omega arith)

module _ (v : View) (l : ℕ → ℕ) where
  -- what t's clients ask of the CM is what t's collateral doesn't reach
  asked-clients : (t : ℕ) → of_clients v t (asked_of_cm v l) ≡ of_clients v t (short v l) - (v.collateral t - own v l t)
  asked-clients t =
      sum-eq v.count (λ i. only (is_client_of v t i) (asked_of_cm v l i)) (λ i. only (is_client_of v t i) (short v l i) - left_tm v l t i)
      (λ i m. by i (is_client_of v t i) refl)
      ∙ waterfall v.count (λ i. only (is_client_of v t i) (short v l i)) (v.collateral t - own v l t)
    where
      by : (i : ℕ) (b : Bool) → is_client_of v t i ≡ b → only b (asked_of_cm v l i) ≡ only b (short v l i) - left_tm v l t i
      by i true e = asked-client v l t i e
      by i false e = omega arith

  short-le : (t : ℕ) → of_clients v t (short v l) ≤ of_clients v t (beyond v l) + of_clients v t (own_deemed v)
  short-le t =
      omega (
        arith,
        sum-le v.count (λ i. only (is_client_of v t i) (short v l i))
            (λ i. only (is_client_of v t i) (beyond v l i) + only (is_client_of v t i) (own_deemed v i)) (λ i m. by i (is_client_of v t i)),
        sum-add v.count (λ i. only (is_client_of v t i) (beyond v l i)) (λ i. only (is_client_of v t i) (own_deemed v i)),
      )
    where
      by : (i : ℕ) (b : Bool) → only b (short v l i) ≤ only b (beyond v l i) + only b (own_deemed v i)
      by i true = omega arith
      by i false = omega arith

  -- a TM and its clients together
  group-le : (t : ℕ) → v.sort t ≡ 1 → group v (asked_of_cm v l) t ≤ group v (beyond v l) t + deemed_tm v t
  unfolding need_tm
  group-le t e =
      rw (asked-other v l t (rw e), asked-clients t)
      (pool (l t) (v.collateral t) (v.margin t) (of_clients v t (short v l)) (of_clients v t (beyond v l)) (of_clients v t (own_deemed v))
      (short-le t))

  CP-le : (i : ℕ) → v.sort i ≡ 3 → asked_of_cm v l i ≤ beyond v l i + own_deemed v i
  CP-le i e = omega (arith, asked-other v l i (rw e))

  members-split : (i : ℕ) → members v (λ t. group v (beyond v l) t + deemed_tm v t) (λ t. beyond v l t + own_deemed v t) i
      ≡ members v (group v (beyond v l)) (beyond v l) i + members v (deemed_tm v) (own_deemed v) i
  members-split i =
      omega (
        arith,
        only-add (is_tm v i) (group v (beyond v l) i) (deemed_tm v i),
        only-add (is_cp v i) (beyond v l i) (own_deemed v i),
      )

  members-asked : (i : ℕ) → members v (group v (asked_of_cm v l)) (asked_of_cm v l) i
      ≤ members v (group v (beyond v l)) (beyond v l) i + members v (deemed_tm v) (own_deemed v) i
  members-asked i =
      rw (← (members-split i))
      (members-le v (group v (asked_of_cm v l)) (asked_of_cm v l) (λ t. group v (beyond v l) t + deemed_tm v t) (λ t. beyond v l t + own_deemed v t) i
      (group-le i) (CP-le i))

  -- the total: what the CM's collateral doesn't reach
  pub total-asked : sum v.count (unpaid v l) ≡ sum v.count (asked_of_cm v l) - (v.collateral 0 - own v l 0)
  unfolding unpaid
  total-asked = waterfall v.count (asked_of_cm v l) (v.collateral 0 - own v l 0)

module _ (v : View) (s : Shaped v) (l : ℕ → ℕ) where
  -- the CM's own loss, and all that is asked of its collateral
  pub asked-le : own v l 0 + sum v.count (asked_of_cm v l) ≤ sum v.count (beyond v l) + need_cm v
  unfolding need_cm
  asked-le =
      omega (
        arith,
        asked-other v l 0 (rw s.top),
        sum-by-groups v s (asked_of_cm v l),
        sum-by-groups v s (beyond v l),
        sum-le v.count (members v (group v (asked_of_cm v l)) (asked_of_cm v l))
            (λ i. members v (group v (beyond v l)) (beyond v l) i + members v (deemed_tm v) (own_deemed v) i) (λ i m. members-asked v l i),
        sum-add v.count (members v (group v (beyond v l)) (beyond v l)) (members v (deemed_tm v) (own_deemed v)),
      )

  pub fund : sum v.count (unpaid v l) ≤ (need_cm v - v.collateral 0) + sum v.count (beyond v l)
  fund = omega (arith, total-asked v l, asked-le)
