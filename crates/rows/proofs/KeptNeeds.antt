-- K3's kept needs, place by place: from what is deemed under each account, and what is deemed under each account from them.
use mathlib.Core.Path.{◌≡◌, refl, sym, ◌∙◌, ap}
use mathlib.Core.Bool.{Bool, true, false}
use mathlib.Core.List.{List}
use Prim.Native.Nat.{ℕ, ◌+◌, ◌-◌, ◌≤◌, ◌<◌}
use native.Mathlib.Omega.{arith}
use native.Mathlib.Decide.{ℕ_discrete, dec_lt}
use lib.Dec.{eqb}
use lib.ListN.{length, get_or, get_or-eq_default}
use borrow.Author.Tests.{eqb-true, eq-eqb, ne_eqb, le-leb, lt-leb}
use Rattle.sums.specs.Sum.{only}
use Rattle.sums.specs.Choice.{pick}
use Rattle.sums.proofs.Choices.{pick_yes, pick_no}
use Rattle.sums.proofs.Lists.{length-list_to, at-list_to, list_to-eq, list-is}
use Rattle.rows.specs.View.{View, is_tm, need_tm, need_cm, need}
use Rattle.rows.specs.Facts.{Shaped, NoneBeyond, NeedsKept}
use Rattle.rows.specs.DeemedUnder.{DeemedUnder, account_at, deemed_under_by, need_by}
use Rattle.rows.specs.KeptNeeds.{kept_need, needs_afresh}
use Rattle.rows.specs.Inner.{kept_with}
use Rattle.rows.proofs.BySort.{Sort, cm, tm, client, cp, sort-of, need-CM, need-TM, need-client, need-CP}
use Rattle.rows.proofs.DeemedUnder.{cm-is, tm-is}

module _ (v : View) where
  pub afresh-size : length (needs_afresh v) ≡ 256
  unfolding needs_afresh
  afresh-size = length-list_to (kept_need v) 256

  pub afresh-at : (i : ℕ) → i < 256 → get_or (needs_afresh v) i 0 ≡ kept_need v i
  unfolding needs_afresh
  afresh-at i l = at-list_to (kept_need v) 256 i 0 l

  pub kept-CM : kept_need v 0 ≡ need_cm v
  unfolding pick
  kept-CM = refl

  kept-other : (i : ℕ) → (i ≡ 0 → ⊥) → kept_need v i ≡ only (is_tm v i) (need_tm v i)
  kept-other i n = pick_no (eqb i 0) (need_cm v) (only (is_tm v i) (need_tm v i)) (ne_eqb i 0 n)

  pub kept-TM : (i : ℕ) → (i ≡ 0 → ⊥) → v.sort i ≡ 1 → kept_need v i ≡ need_tm v i
  kept-TM i n e = kept-other i n ∙ ap (λ t. only t (need_tm v i)) (eq-eqb (v.sort i) 1 e)

  pub kept-none : (i : ℕ) → (i ≡ 0 → ⊥) → is_tm v i ≡ false → kept_need v i ≡ 0
  kept-none i n e = kept-other i n ∙ ap (λ t. only t (need_tm v i)) e

-- needs worked out over two views that are the same place by place
pub needs-same : (v w : View) → ((i : ℕ) → i < 256 → kept_need w i ≡ kept_need v i) → needs_afresh w ≡ needs_afresh v
unfolding needs_afresh
needs-same v w h = list_to-eq (kept_need w) (kept_need v) 256 h

-- a kept need is the margin and what is deemed under the account
module _ (v : View) (s : Shaped v) (under : List ℕ) (h : DeemedUnder v under) where
  pub kept_top : kept_need v 0 ≡ v.margin 0 + get_or under 0 0
  kept_top = kept-CM v ∙ cm-is v s under h

  pub kept_by : (i : ℕ) → (i ≡ 0 → ⊥) → i < v.count → kept_need v i ≡ only (is_tm v i) (v.margin i + get_or under i 0)
  kept_by i n l = by (is_tm v i) refl
    where
      by : (t : Bool) → is_tm v i ≡ t → kept_need v i ≡ only (is_tm v i) (v.margin i + get_or under i 0)
      by true e =
          let c : v.sort i ≡ 1 = eqb-true _ _ e in
          kept-TM v i n c ∙ tm-is v s under h i l c ∙ ap (λ t. only t (v.margin i + get_or under i 0)) (sym e)
      by false e = kept-none v i n e ∙ ap (λ t. only t (v.margin i + get_or under i 0)) (sym e)

  -- at any place: a row never given keeps none
  pub kept-with : NoneBeyond v → (i : ℕ) → kept_with v i (get_or under i 0) ≡ kept_need v i
  kept-with none i = by (dec_lt i v.count) (ℕ_discrete i 0)
    where
      by : Dec (i < v.count) → Dec (i ≡ 0) → kept_with v i (get_or under i 0) ≡ kept_need v i
      by (yes l) (yes e) = pick_no _ _ _ (lt-leb v.count i l) ∙ pick_yes _ _ _ (eq-eqb i 0 e) ∙ rw e (sym kept_top)
      by (yes l) (no n) = pick_no _ _ _ (lt-leb v.count i l) ∙ pick_no _ _ _ (ne_eqb i 0 n) ∙ sym (kept_by i n l)
      by (no l) d = pick_yes _ _ _ (le-leb v.count i (omega arith)) ∙ sym (kept-none v i (λ e. omega (arith, s.some)) (none i (omega arith)))

-- an account's need by the kept one
pub need-by : (v : View) → Shaped v → (i : ℕ) → i < v.count → need v i ≡ need_by (account_at v i) (kept_need v i)
need-by v s i l = by (sort-of v s i l)
  where
    by : Sort v i → need v i ≡ need_by (account_at v i) (kept_need v i)
    by (cm e c) = need-CM v i c ∙ sym (ap (kept_need v) e ∙ kept-CM v) ∙ sym (pick_yes _ _ _ (le-leb (v.sort i) 1 (omega arith)))
    by (tm g c) = need-TM v i c ∙ sym (kept-TM v i (λ e. omega arith) c) ∙ sym (pick_yes _ _ _ (le-leb (v.sort i) 1 (omega arith)))
    by (client g c) = need-client v i c ∙ sym (pick_no _ _ _ (lt-leb (v.sort i) 1 (omega arith)))
    by (cp g c) = need-CP v i c ∙ sym (pick_no _ _ _ (lt-leb (v.sort i) 1 (omega arith)))

-- a list of needs that are kept right is the one worked out afresh
pub afresh-is : (v : View) (needs : List ℕ) → length needs ≡ 256 → NeedsKept v needs → needs ≡ needs_afresh v
unfolding needs_afresh
afresh-is v needs l h = sym (list-is (kept_need v) 256 0 needs l h)

-- what is deemed under each account is its kept need less its margin
module _ (v : View) (s : Shaped v) (none : NoneBeyond v) (margin : ℕ → ℕ) (same : (i : ℕ) → i < 256 → margin i ≡ v.margin i) (needs : List ℕ) (kept : NeedsKept v needs) where
  abbrev deemed-under : List ℕ
  deemed-under = deemed_under_by margin needs

  at : (i : ℕ) → i < 256 → get_or deemed-under i 0 ≡ kept_need v i - v.margin i
  at i l =
      at-list_to (λ j. get_or needs j 0 - margin j) 256 i 0 l ∙ ap (λ n. n - margin i) (kept i l)
      ∙ ap (λ n. kept_need v i - n) (same i l)

  pub kept_under : v.count ≤ 256 → DeemedUnder v deemed-under
  unfolding need_tm need_cm
  kept_under most = record {
    size = length-list_to (λ j. get_or needs j 0 - margin j) 256;
    each = λ i l. by i l (sort-of v s i l);
    beyond = λ i l. far i l (dec_lt i 256);
  }
    where
      by : (i : ℕ) → i < v.count → Sort v i → need v i ≡ v.margin i + get_or deemed-under i 0
      by i l (cm e c) = rw e (omega (arith, at 0 (omega arith), kept-CM v, need-CM v 0 s.top))
      by i l (tm g c) = omega (arith, at i (omega arith), kept-TM v i (λ e. omega arith) c, need-TM v i c)
      by i l (client g c) = omega (arith, at i (omega arith), kept-none v i (λ e. omega arith) (ap (λ n. eqb n 1) c), need-client v i c)
      by i l (cp g c) = omega (arith, at i (omega arith), kept-none v i (λ e. omega arith) (ap (λ n. eqb n 1) c), need-CP v i c)

      far : (i : ℕ) → v.count ≤ i → Dec (i < 256) → get_or deemed-under i 0 ≡ 0
      far i l (yes q) = omega (arith, at i q, kept-none v i (λ e. omega (arith, s.some)) (none i l))
      far i l (no q) = get_or-eq_default deemed-under 0 (omega (arith, length-list_to (λ j. get_or needs j 0 - margin j) 256))
