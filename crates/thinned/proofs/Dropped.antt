-- A book's view without rows that count for nothing: every need and every use stays the same.
use mathlib.Core.Bool.{Bool, true, false, ◌&&◌}
use mathlib.Core.Path.{◌≡◌, refl, sym, ap, ◌∙◌}
use Prim.Native.Nat.{ℕ, ◌<◌}
use native.Mathlib.Omega.{arith}
use native.Mathlib.Decide.{ℕ_discrete}
use lib.Dec.{eqb}
use borrow.Author.Tests.{eqb-true, eq-eqb, ne_eqb}
use Rattle.sums.specs.Sum.{sum, only}
use Rattle.sums.proofs.Sums.{sum-zero, only_zero}
use Rattle.rows.specs.View.{View, is_client_of, own_deemed, need_tm, deemed_tm, need_cm, need, members}
use Rattle.rows.specs.Inner.{times, view_as}
use Rattle.rows.proofs.BySort.{client-sort, client-tm}
use Rattle.gaps.specs.Gaps.{place_after}
use Rattle.gaps.proofs.Places.{place_none, place-apart}
use Rattle.thinned.proofs.KeptSums.{sum_kept}

-- w is v without the rows that are not kept. A kept client's TM is kept; a row that is not kept has no margin, nor has a client of it.
pub record Dropped (keep : ℕ → Bool) (v w : View) : Type 0 where
  pub count : w.count ≡ place_after keep v.count
  pub sort : (i : ℕ) → i < v.count → keep i ≡ true → w.sort (place_after keep i) ≡ v.sort i
  pub margin : (i : ℕ) → i < v.count → keep i ≡ true → w.margin (place_after keep i) ≡ v.margin i
  pub collateral : (i : ℕ) → i < v.count → keep i ≡ true → w.collateral (place_after keep i) ≡ v.collateral i
  pub tm : (i : ℕ) → i < v.count → keep i ≡ true → v.sort i ≡ 2 → w.tm (place_after keep i) ≡ place_after keep (v.tm i)
  pub tm-kept : (i : ℕ) → i < v.count → keep i ≡ true → v.sort i ≡ 2 → keep (v.tm i) ≡ true
  pub gone : (i : ℕ) → i < v.count → keep i ≡ false → v.margin i ≡ 0
  pub gone-clients : (i : ℕ) → i < v.count → v.sort i ≡ 2 → keep (v.tm i) ≡ false → v.margin i ≡ 0

-- in tenths too
pub dropped-in : (tenths : Bool) {keep : ℕ → Bool} {v w : View} → Dropped keep v w → Dropped keep (view_as tenths v) (view_as tenths w)
dropped-in tenths d = record {
  count = d.count;
  sort = d.sort;
  margin = λ i l e. ap (times tenths 10) (d.margin i l e);
  collateral = λ i l e. ap (times tenths 9) (d.collateral i l e);
  tm = d.tm;
  tm-kept = d.tm-kept;
  gone = λ i l e. ap (times tenths 10) (d.gone i l e) ∙ nothing tenths;
  gone-clients = λ i l s e. ap (times tenths 10) (d.gone-clients i l s e) ∙ nothing tenths;
}
  where
    nothing : (t : Bool) → times t 10 0 ≡ 0
    nothing true = refl
    nothing false = refl

module _ (keep : ℕ → Bool) (v w : View) (d : Dropped keep v w) where
  abbrev at : ℕ → ℕ
  at = place_after keep

  same-own : (i : ℕ) → i < v.count → keep i ≡ true → own_deemed w (at i) ≡ own_deemed v i
  same-own i l e = rw (d.margin i l e, d.collateral i l e)

  -- a kept account has the clients it had
  pub same-client : (t i : ℕ) → keep t ≡ true → i < v.count → keep i ≡ true → is_client_of w (at t) (at i) ≡ is_client_of v t i
  same-client t i kt l k = rw (d.sort i l k) (by (eqb (v.sort i) 2) refl)
    where
      names : v.sort i ≡ 2 → eqb (w.tm (at i)) (at t) ≡ eqb (v.tm i) t
      names c = ap (λ x. eqb x (at t)) (d.tm i l k c) ∙ same (ℕ_discrete (v.tm i) t)
        where
          same : Dec (v.tm i ≡ t) → eqb (at (v.tm i)) (at t) ≡ eqb (v.tm i) t
          same (yes e) = eq-eqb _ _ (ap at e) ∙ sym (eq-eqb _ _ e)
          same (no e) = ne_eqb _ _ (place-apart keep (v.tm i) t (d.tm-kept i l k c) kt e) ∙ sym (ne_eqb _ _ e)

      by : (x : Bool) → eqb (v.sort i) 2 ≡ x → (x && eqb (w.tm (at i)) (at t)) ≡ (x && eqb (v.tm i) t)
      by true e = names (eqb-true _ _ e)
      by false e = refl

  -- a row that is not kept is deemed nothing, and so is a client of such a row
  gone-own : (i : ℕ) → i < v.count → keep i ≡ false → own_deemed v i ≡ 0
  gone-own i l e = omega (arith, d.gone i l e)

  pub need_tm-kept : (t : ℕ) → t < v.count → keep t ≡ true → need_tm w (at t) ≡ need_tm v t
  unfolding need_tm
  need_tm-kept t l k =
      omega (
        arith,
        d.margin t l k,
        ap (λ n. sum n (λ i. only (is_client_of w (at t) i) (own_deemed w i))) d.count,
        sum_kept keep v.count (λ i. only (is_client_of v t i) (own_deemed v i)) (λ i. only (is_client_of w (at t) i) (own_deemed w i))
            (λ i m e. rw (same-client t i k m e, same-own i m e))
            (λ i m e. only_zero (is_client_of v t i) (own_deemed v i) (λ q. gone-own i m e)),
      )

  -- a TM that is not kept has no need
  need_tm-gone : (t : ℕ) → t < v.count → keep t ≡ false → need_tm v t ≡ 0
  unfolding need_tm
  need_tm-gone t l e =
      omega (
        arith,
        d.gone t l e,
        sum-zero v.count (λ i. only (is_client_of v t i) (own_deemed v i))
            (λ i m. only_zero (is_client_of v t i) (own_deemed v i) (λ q. omega (arith, d.gone-clients i m (client-sort v t i q) (rw (client-tm v t i q) e)))),
      )

  pub need_cm-kept : 0 < v.count → keep 0 ≡ true → need_cm w ≡ need_cm v
  unfolding need_cm
  need_cm-kept some top =
      omega (
        arith,
        first,
        ap (λ n. sum n (members w (deemed_tm w) (own_deemed w))) d.count,
        sum_kept keep v.count (members v (deemed_tm v) (own_deemed v)) (members w (deemed_tm w) (own_deemed w))
            (λ i m e. rw (d.sort i m e, need_tm-kept i m e, d.margin i m e, d.collateral i m e))
            (λ i m e. none i m e),
      )
    where
      first : w.margin 0 ≡ v.margin 0
      first = ap w.margin (sym (place_none keep)) ∙ d.margin 0 some top

      none : (i : ℕ) → i < v.count → keep i ≡ false → members v (deemed_tm v) (own_deemed v) i ≡ 0
      none i m e =
          omega (
            arith,
            only_zero (eqb (v.sort i) 1) (deemed_tm v i) (λ q. omega (arith, need_tm-gone i m e)),
            only_zero (eqb (v.sort i) 3) (own_deemed v i) (λ q. gone-own i m e),
          )

  -- every kept account has the need it had, and with it the five figures of its standing
  pub need-kept : (i : ℕ) → i < v.count → keep i ≡ true → 0 < v.count → keep 0 ≡ true → need w (at i) ≡ need v i
  unfolding need
  need-kept i l k some top = rw (d.sort i l k, need_cm-kept some top, need_tm-kept i l k, d.margin i l k)
