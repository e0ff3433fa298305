-- What never raises the shortfall (K8): margins that don't rise and collateral that stays at least what was blocked. Most codes are shown to keep to it.
use mathlib.Core.Path.{◌≡◌, ap}
use Prim.Native.Nat.{ℕ, ◌≤◌}
use native.Mathlib.Omega.{arith}
use Rattle.sums.specs.Sum.{sum, only}
use Rattle.sums.proofs.Sums.{sum-le, only-le}
use Rattle.rows.specs.View.{View, is_client_of, members, own_deemed, need_tm, deemed_tm, need_cm, blocked}
use Rattle.rows.proofs.Cover.{Covered}
use Rattle.book.specs.Asked.{shortfall}
use Rattle.rows.proofs.BySort.{need-CM, need-TM, need-client, need-CP, client-sort, members-le}

-- the same accounts; margins did not rise, and no collateral fell below what was blocked of it
pub record NoWorse (v w : View) : Type 0 where
  pub count : w.count ≡ v.count
  pub sort : (i : ℕ) → w.sort i ≡ v.sort i
  pub tm : (i : ℕ) → w.tm i ≡ v.tm i
  pub margin : (i : ℕ) → w.margin i ≤ v.margin i
  pub collateral : (i : ℕ) → blocked v i ≤ w.collateral i

module _ (v w : View) (k : NoWorse v w) where
  client-falls : (i : ℕ) → v.sort i ≡ 2 → own_deemed w i ≤ own_deemed v i
  client-falls i e = omega (arith, k.margin i, k.collateral i, need-client v i e)

  CP-falls : (i : ℕ) → v.sort i ≡ 3 → own_deemed w i ≤ own_deemed v i
  CP-falls i e = omega (arith, k.margin i, k.collateral i, need-CP v i e)

  part_falls : (t i : ℕ) → only (is_client_of w t i) (own_deemed w i) ≤ only (is_client_of v t i) (own_deemed v i)
  part_falls t i = rw (k.sort i, k.tm i) (only-le (is_client_of v t i) (λ e. client-falls i (client-sort v t i e)))

  pub need_tm-falls : (t : ℕ) → need_tm w t ≤ need_tm v t
  unfolding need_tm
  need_tm-falls t =
      omega (
        arith,
        k.margin t,
        ap (λ n. sum n (λ i. only (is_client_of v t i) (own_deemed v i))) k.count,
        sum-le w.count (λ i. only (is_client_of w t i) (own_deemed w i)) (λ i. only (is_client_of v t i) (own_deemed v i)) (λ i l. part_falls t i),
      )

  TM-falls : (t : ℕ) → v.sort t ≡ 1 → deemed_tm w t ≤ deemed_tm v t
  TM-falls t e = omega (arith, need_tm-falls t, k.collateral t, need-TM v t e)

  member-falls : (i : ℕ) → members w (deemed_tm w) (own_deemed w) i ≤ members v (deemed_tm v) (own_deemed v) i
  member-falls i = rw (k.sort i) (members-le v (deemed_tm w) (own_deemed w) (deemed_tm v) (own_deemed v) i (TM-falls i) (CP-falls i))

  pub need_cm-falls : need_cm w ≤ need_cm v
  unfolding need_cm
  need_cm-falls =
      omega (
        arith,
        k.margin 0,
        ap (λ n. sum n (members v (deemed_tm v) (own_deemed v))) k.count,
        sum-le w.count (members w (deemed_tm w) (own_deemed w)) (members v (deemed_tm v) (own_deemed v)) (λ i l. member-falls i),
      )

  -- allocate, pledge, release or unpledge of at most free, a margin that doesn't rise, receive, hand back, retire
  pub no-worse-shortfall : v.sort 0 ≡ 0 → shortfall w ≤ shortfall v
  no-worse-shortfall e = omega (arith, need_cm-falls, k.collateral 0, need-CM v 0 e)

  pub no-worse-covered : v.sort 0 ≡ 0 → Covered v → Covered w
  no-worse-covered e c = omega (arith, no-worse-shortfall e)
