-- A new account with all amounts 0 changes no need, keeps the book shaped, and moves no shortfall.
use mathlib.Core.Bool.{Bool, true, false}
use mathlib.Core.Path.{◌≡◌, refl, sym, ◌∙◌, ap}
use mathlib.Core.Logic.{◌⊎◌}
use Prim.Native.Nat.{ℕ, ◌+◌, ◌≤◌, ◌<◌}
use native.Mathlib.Omega.{arith}
use native.Mathlib.Decide.{ℕ_discrete}
use Rattle.sums.specs.Sum.{sum, only}
use Rattle.sums.proofs.Sums.{sum_step, sum-eq, sum-zero, only_zero}
use Rattle.rows.specs.View.{View, is_tm, is_cp, is_client_of, members, of_clients, own_deemed, need_tm, deemed_tm, need_cm}
use Rattle.rows.specs.Facts.{Shaped}
use Rattle.rows.specs.Inner.{times, view_as}
use Rattle.book.specs.Asked.{shortfall}
use Rattle.rows.proofs.BySort.{client-sort, client-tm}

-- w is v with one account more, whose margin is 0 and which is a TM, a CP or a client of one of v's TMs
pub record Opened (v w : View) : Type 0 where
  pub count : w.count ≡ v.count + 1
  pub sort : (i : ℕ) → i < v.count → w.sort i ≡ v.sort i
  pub tm : (i : ℕ) → i < v.count → w.tm i ≡ v.tm i
  pub margin : (i : ℕ) → i < v.count → w.margin i ≡ v.margin i
  pub collateral : (i : ℕ) → i < v.count → w.collateral i ≡ v.collateral i
  pub no-margin : w.margin v.count ≡ 0
  pub new-sort : (w.sort v.count ≡ 1) ⊎ ((w.sort v.count ≡ 2) ⊎ (w.sort v.count ≡ 3))
  pub its-tm : w.sort v.count ≡ 2 → (w.tm v.count < v.count) × (v.sort (w.tm v.count) ≡ 1)

-- in tenths too
pub opened_in : (tenths : Bool) {v w : View} → Opened v w → Opened (view_as tenths v) (view_as tenths w)
opened_in tenths o = record {
  count = o.count;
  sort = o.sort;
  tm = o.tm;
  margin = λ i l. ap (times tenths 10) (o.margin i l);
  collateral = λ i l. ap (times tenths 9) (o.collateral i l);
  no-margin = ap (times tenths 10) o.no-margin ∙ times_none tenths 10;
  new-sort = o.new-sort;
  its-tm = o.its-tm;
}
  where
    times_none : (t : Bool) (n : ℕ) → times t n 0 ≡ 0
    times_none true n = omega arith
    times_none false n = refl

module _ (v w : View) (o : Opened v w) (s : Shaped v) where
  new-own : own_deemed w v.count ≡ 0
  new-own = omega (arith, o.no-margin)

  same-part : (t i : ℕ) → i < v.count → only (is_client_of w t i) (own_deemed w i) ≡ only (is_client_of v t i) (own_deemed v i)
  same-part t i l = rw (o.sort i l, o.tm i l, o.margin i l, o.collateral i l)

  same-clients : (t : ℕ) → of_clients w t (own_deemed w) ≡ of_clients v t (own_deemed v)
  same-clients t =
      ap (λ n. sum n (λ i. only (is_client_of w t i) (own_deemed w i))) o.count
      ∙ omega (
        arith,
        sum_step v.count (λ i. only (is_client_of w t i) (own_deemed w i)),
        sum-eq v.count (λ i. only (is_client_of w t i) (own_deemed w i)) (λ i. only (is_client_of v t i) (own_deemed v i)) (same-part t),
        only_zero (is_client_of w t v.count) (own_deemed w v.count) (λ e. new-own),
      )

  pub need_tm-same : (t : ℕ) → t < v.count → need_tm w t ≡ need_tm v t
  unfolding need_tm
  need_tm-same t l = omega (arith, o.margin t l, same-clients t)

  -- nobody is a client of an account that isn't there yet
  pub need_tm-new : need_tm w v.count ≡ 0
  unfolding need_tm
  need_tm-new =
      omega (
        arith,
        o.no-margin,
        same-clients v.count,
        sum-zero v.count (λ i. only (is_client_of v v.count i) (own_deemed v i))
            (λ i l. only_zero (is_client_of v v.count i) (own_deemed v i)
            (λ e. absurd (omega (arith, (s.tms i l (client-sort v v.count i e)).0, client-tm v v.count i e)))),
      )

  same-member : (i : ℕ) → i < v.count → members w (deemed_tm w) (own_deemed w) i ≡ members v (deemed_tm v) (own_deemed v) i
  same-member i l = rw (need_tm-same i l, o.sort i l, o.margin i l, o.collateral i l)

  new-member : members w (deemed_tm w) (own_deemed w) v.count ≡ 0
  new-member =
      omega (
        arith,
        only_zero (is_tm w v.count) (deemed_tm w v.count) (λ e. omega (arith, need_tm-new)),
        only_zero (is_cp w v.count) (own_deemed w v.count) (λ e. new-own),
      )

  pub need_cm-same : need_cm w ≡ need_cm v
  unfolding need_cm
  need_cm-same =
      omega (
        arith,
        o.margin 0 s.some,
        ap (λ n. sum n (members w (deemed_tm w) (own_deemed w))) o.count,
        sum_step v.count (members w (deemed_tm w) (own_deemed w)),
        sum-eq v.count (members w (deemed_tm w) (own_deemed w)) (members v (deemed_tm v) (own_deemed v)) same-member,
        new-member,
      )

  pub opened-shortfall : shortfall w ≡ shortfall v
  opened-shortfall = omega (arith, need_cm-same, o.collateral 0 s.some)

  pub opened-shaped : Shaped w
  opened-shaped = record {
    some = omega (arith, o.count);
    top = o.sort 0 s.some ∙ s.top;
    sorts = λ i p l. sorts i p (ℕ_discrete i v.count) (omega (arith, o.count));
    tms = λ i l e. tms i e (ℕ_discrete i v.count) (omega (arith, o.count));
  }
    where
      sorts : (i : ℕ) → 0 < i → Dec (i ≡ v.count) → i ≤ v.count → (w.sort i ≡ 1) ⊎ ((w.sort i ≡ 2) ⊎ (w.sort i ≡ 3))
      sorts i p (yes e) l = rw e o.new-sort
      sorts i p (no e) l = rw (o.sort i (omega arith)) (s.sorts i p (omega arith))

      tms : (i : ℕ) → w.sort i ≡ 2 → Dec (i ≡ v.count) → i ≤ v.count → (w.tm i < i) × (w.sort (w.tm i) ≡ 1)
      tms i e (yes q) l =
          let h = o.its-tm (rw q at e) in
          rw q (h.0, o.sort _ h.0 ∙ h.1)
      tms i e (no q) l =
          let h = s.tms i (omega arith) (sym (o.sort i (omega arith)) ∙ e) in
          rw (o.tm i (omega arith)) (h.0, o.sort _ (omega (arith, h.0)) ∙ h.1)
