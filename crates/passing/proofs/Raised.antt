-- A margin may rise by what is free of the account, of its TM and of the CM, and by no more: 13's test in closed form. With a shortfall (K8) it
-- may not rise at all.
use mathlib.Core.Bool.{Bool, true, false, not, ◌&&◌}
use mathlib.Core.Path.{◌≡◌, refl, sym, ap, ◌∙◌}
use Prim.Native.Nat.{ℕ, ◌+◌, ◌-◌, ◌≤◌, ◌<◌}
use native.Mathlib.Omega.{arith}
use lib.Dec.{ltb, eqb}
use borrow.Author.Tests.{ltb-true, ltb-false, lt-ltb, le-ltb}
use Rattle.sums.specs.Choice.{pick}
use Rattle.sums.specs.Sum.{only}
use Rattle.rows.specs.declared.Book.{Book}
use Rattle.rows.specs.View.{View, deemed_of, free_of, own_deemed, need_tm, deemed_tm, need_cm, need, free}
use Rattle.rows.specs.Rows.{row_at, collateral, view, with_margin, with_row}
use Rattle.rows.proofs.BySort.{Sort, cm, tm, client, cp, sort-of, need-CM, need-TM, need-client, need-CP}
use Rattle.rows.proofs.RowPut.{row_same}
use Rattle.book.specs.Facts.{Sound}
use Rattle.book.proofs.OneRow.{at_all}
use Rattle.book.proofs.Differences.{RowChanged, row-changed, need_tm-client, need_tm-own, need_cm-client, need_cm-tm, need_cm-cp, need_cm-own}
use Rattle.book.proofs.SoundAfter.{in_table}
use Rattle.passing.specs.Inner.{raisable}

-- a need that rises by u is deemed more by what of u isn't free
absorbs : (n n' u c : ℕ) → n' ≡ n + u → deemed_of n' c ≡ deemed_of n c + (u - free_of n c)
absorbs n n' u c e = omega arith

-- a need that moves as what is deemed under it does
follows : (n n' d d' u : ℕ) → n' + d ≡ n + d' → d' ≡ d + u → n' ≡ n + u
follows n n' d d' u e q = omega arith

through-one : (m f h : ℕ) → m + f + 0 + h ≡ m + f + h
through-one m f h = omega arith

through-two : (m f g h : ℕ) → m + f + g + h ≡ m + (f + g) + h
through-two m f g h = omega arith

split : (x m f g : ℕ) → x - m - f - g ≡ x - m - (f + g)
split x m f g = omega arith

-- the CM's need after, where all but k of the rise comes to it, against its collateral c
pub passes-above : (n n' c m x k t : ℕ) → m < x → n' ≡ n + (x - m - k) → t ≡ m + k + free_of n c → ltb c n' ≡ ltb (pick (ltb c n) m t) x
unfolding pick
passes-above n n' c m x k t r e q = by (ltb c n) refl
  where
    short : c < n → ltb c n' ≡ ltb m x
    short h = lt-ltb c n' (omega arith) ∙ sym (lt-ltb m x r)

    covered : n ≤ c → ltb c n' ≡ ltb t x
    covered h = same (ltb t x) refl
      where
        same : (z : Bool) → ltb t x ≡ z → ltb c n' ≡ z
        same true f = let g = ltb-true t x f in lt-ltb c n' (omega arith)
        same false f = let g = ltb-false t x f in le-ltb c n' (omega arith)

    by : (z : Bool) → ltb c n ≡ z → ltb c n' ≡ ltb (pick z m t) x
    by true h = short (ltb-true c n h)
    by false h = covered (ltb-false c n h)

module _ (b : Book) (s : Sound b) (i : ℕ) (l : i < b.count) (x : ℕ) where
  abbrev v : View
  v = view b

  abbrev raised : Book
  raised = with_row b i (with_margin (row_at b i) x)

  abbrev w : View
  w = view raised

  o : RowChanged v w i
  o = row-changed b i (with_margin (row_at b i) x) (in_table b s i l) l refl refl

  new-margin : w.margin i ≡ x
  new-margin = ap (λ z. z.margin) (row_same b i (with_margin (row_at b i) x) (in_table b s i l))

  same-collateral : (j : ℕ) → w.collateral j ≡ v.collateral j
  same-collateral = at_all (λ j y z. collateral y ≡ collateral z) b i (with_margin (row_at b i) x) (in_table b s i l) refl (λ j. refl)

  module _ (r : v.margin i < x) where
    abbrev m : ℕ
    m = v.margin i

    -- of an account whose need is its margin
    own-deemed : need v i ≡ m → own_deemed w i ≡ own_deemed v i + (x - m - free v i)
    own-deemed e =
        ap (λ n. deemed_of n (w.collateral i)) new-margin ∙ ap (deemed_of x) (same-collateral i) ∙ absorbs m x (x - m) (v.collateral i) (omega arith)
        ∙ ap (λ n. own_deemed v i + (x - m - free_of n (v.collateral i))) (sym e)

    -- what reaches the CM's need, where k is free before it
    reaches : (k : ℕ) → need_cm w ≡ need_cm v + (x - m - k)
        → (t : ℕ) → t ≡ m + k + free v 0 → ltb (w.collateral 0) (need_cm w) ≡ ltb (pick (ltb (v.collateral 0) (need_cm v)) m t) x
    reaches k e t q =
        ap (λ c. ltb c (need_cm w)) (same-collateral 0)
        ∙ passes-above (need_cm v) (need_cm w) (v.collateral 0) m x k t r e (q ∙ ap (λ n. m + k + free_of n (v.collateral 0)) (need-CM v 0 s.shaped.top))

    by-CM : i ≡ 0 → v.sort i ≡ 0 → ltb (w.collateral 0) (need_cm w) ≡ ltb (raisable v i) x
    by-CM e c =
        reaches 0 (omega (arith, need_cm-own v w i o c, ap v.margin e, ap w.margin e, new-margin)) _
        (ap (λ n. m + free v i + only (eqb n 2) (free v (v.tm i)) + only (not (eqb n 0)) (free v 0)) c ∙ ap (λ j. m + free v j + 0 + 0) e ∙ omega arith)

    by-CP : v.sort i ≡ 3 → ltb (w.collateral 0) (need_cm w) ≡ ltb (raisable v i) x
    by-CP c =
        reaches (free v i) (follows (need_cm v) (need_cm w) (own_deemed v i) (own_deemed w i) _ (need_cm-cp v w i o s.shaped c) (own-deemed (need-CP v i c))) _
        (ap (λ n. m + free v i + only (eqb n 2) (free v (v.tm i)) + only (not (eqb n 0)) (free v 0)) c ∙ through-one m (free v i) (free v 0))

    -- what an account is deemed whose need rises by u
    deemed-rises : (j u : ℕ) → v.sort j ≡ 1 → need_tm w j ≡ need_tm v j + u → deemed_tm w j ≡ deemed_tm v j + (u - free v j)
    deemed-rises j u c e =
        ap (deemed_of (need_tm w j)) (same-collateral j) ∙ absorbs (need_tm v j) (need_tm w j) u (v.collateral j) e
        ∙ ap (λ n. deemed_tm v j + (u - free_of n (v.collateral j))) (sym (need-TM v j c))

    by-TM : v.sort i ≡ 1 → ltb (w.collateral 0) (need_cm w) ≡ ltb (raisable v i) x
    by-TM c =
        let up : need_tm w i ≡ need_tm v i + (x - m) = omega (arith, need_tm-own v w i o c, new-margin) in
        reaches (free v i) (follows (need_cm v) (need_cm w) (deemed_tm v i) (deemed_tm w i) _ (need_cm-tm v w i o s.shaped c) (deemed-rises i (x - m) c up)) _
        (ap (λ n. m + free v i + only (eqb n 2) (free v (v.tm i)) + only (not (eqb n 0)) (free v 0)) c ∙ through-one m (free v i) (free v 0))

    by-client : v.sort i ≡ 2 → ltb (w.collateral 0) (need_cm w) ≡ ltb (raisable v i) x
    by-client c =
        let t = v.tm i in
        let its = s.shaped.tms i l c in
        let up : need_tm w t ≡ need_tm v t + (x - m - free v i) =
        follows (need_tm v t) (need_tm w t) (own_deemed v i) (own_deemed w i) _ (need_tm-client v w i o c (λ e. omega (arith, its.0))) (own-deemed (need-client v i c)) in
        reaches (free v i + free v t)
        (follows (need_cm v) (need_cm w) (deemed_tm v t) (deemed_tm w t) _ (need_cm-client v w i o s.shaped c) (deemed-rises t (x - m - free v i) its.1 up)
        ∙ ap (λ n. need_cm v + n) (split x m (free v i) (free v t))) _
        (ap (λ n. m + free v i + only (eqb n 2) (free v (v.tm i)) + only (not (eqb n 0)) (free v 0)) c ∙ through-two m (free v i) (free v t) (free v 0))

    rises : Sort v i → ltb (w.collateral 0) (need_cm w) ≡ ltb (raisable v i) x
    rises (cm e c) = by-CM e c
    rises (tm g c) = by-TM c
    rises (client g c) = by-client c
    rises (cp g c) = by-CP c

  at_least : v.margin i ≤ raisable v i
  unfolding pick
  at_least = by (ltb (v.collateral 0) (need_cm v))
    where
      by : (z : Bool) → v.margin i ≤ pick z (v.margin i) (v.margin i + free v i + only (eqb (v.sort i) 2) (free v (v.tm i)) + only (not (eqb (v.sort i) 0)) (free v 0))
      by true = omega arith
      by false = omega arith

  -- THE LAW: 13's test of the margin x
  pub raised-passes : (ltb (v.margin i) x && ltb (w.collateral 0) (need_cm w)) ≡ ltb (raisable v i) x
  raised-passes = by (ltb (v.margin i) x) refl
    where
      by : (z : Bool) → ltb (v.margin i) x ≡ z → (z && ltb (w.collateral 0) (need_cm w)) ≡ ltb (raisable v i) x
      by true e = rises (ltb-true _ _ e) (sort-of v s.shaped i l)
      by false e = sym (le-ltb (raisable v i) x (omega (arith, at_least, ltb-false (v.margin i) x e)))
