-- K3's kept needs after one row's amounts change, over any view: three places move, the row's, its TM's and the CM's. After an opening none does.
use mathlib.Core.Path.{◌≡◌, refl, sym, ◌∙◌, ap}
use Prim.Native.Nat.{ℕ, ◌≤◌, ◌<◌}
use native.Mathlib.Omega.{arith}
use native.Mathlib.Decide.{ℕ_discrete, dec_lt}
use mathlib.Core.Bool.{Bool, true, false}
use mathlib.Core.List.{List}
use lib.Dec.{eqb}
use lib.ListN.{length, set}
use borrow.Author.Tests.{eqb-true, ne_eqb}
use Rattle.sums.specs.Sum.{only}
use Rattle.sums.proofs.Choices.{pick_no}
use Rattle.sums.proofs.Lists.{puts-three}
use Rattle.rows.specs.View.{View, is_tm, need_tm}
use Rattle.rows.specs.Facts.{Shaped, NoneBeyond, NeedsKept}
use Rattle.rows.specs.Inner.{Slot}
use Rattle.rows.specs.KeptNeeds.{kept_need, needs_afresh}
use Rattle.rows.proofs.KeptNeeds.{kept-CM, kept-TM, kept-none, needs-same}
use Rattle.book.proofs.Differences.{RowChanged, need_tm-aside}
use Rattle.book.proofs.LookAfter.{client-apart}
use Rattle.book.proofs.Opens.{Opened, need_tm-same, need_tm-new, need_cm-same}

-- row k changes, and p is the place of the TM that it names
module _ (v w : View) (k : ℕ) (o : RowChanged v w k) (s : Shaped v) (most : v.count ≤ 256) (p : ℕ) (sl : Slot (v.tm k) p) where
  pub kept-aside : (i : ℕ) → (i ≡ k → ⊥) → (i ≡ p → ⊥) → (i ≡ 0 → ⊥) → kept_need w i ≡ kept_need v i
  kept-aside i n m z =
      pick_no (eqb i 0) _ _ (ne_eqb i 0 z) ∙ ap (λ t. only (eqb t 1) (need_tm w i)) (o.sort i)
      ∙ ap (only (is_tm v i)) (need_tm-aside v w k o i n (client-apart v w k o s most p sl i m)) ∙ sym (pick_no (eqb i 0) _ _ (ne_eqb i 0 z))

  -- so with those three put anew the kept needs are those worked out afresh
  pub needs-put : (needs : List ℕ) → length needs ≡ 256 → NeedsKept v needs → (own its top : ℕ) → ((k ≡ p → ⊥) → (k ≡ 0 → ⊥) → own ≡ kept_need w k)
      → ((p ≡ 0 → ⊥) → its ≡ kept_need w p) → top ≡ kept_need w 0 → set (set (set needs k own) p its) 0 top ≡ needs_afresh w
  unfolding needs_afresh
  needs-put needs l kept own its top eo ei et =
      sym (puts-three (kept_need w) 0 256 k p 0 needs own its top l (omega (arith, o.inside)) sl.inside (omega arith) eo ei et
      (λ i q n m z. kept i q ∙ sym (kept-aside i n m z)))

module _ (v w : View) (o : Opened v w) (s : Shaped v) (none-v : NoneBeyond v) (none-w : NoneBeyond w) where
  kept-open : (i : ℕ) → kept_need w i ≡ kept_need v i
  kept-open i = by (ℕ_discrete i 0) (dec_lt i v.count) (ℕ_discrete i v.count)
    where
      far : v.count ≤ i → i ≡ 0 → ⊥
      far l e = omega (arith, s.some)

      old : (i ≡ 0 → ⊥) → i < v.count → (t : Bool) → is_tm v i ≡ t → kept_need w i ≡ kept_need v i
      old n l true e =
          let c : v.sort i ≡ 1 = eqb-true _ _ e in
          kept-TM w i n (o.sort i l ∙ c) ∙ need_tm-same v w o s i l ∙ sym (kept-TM v i n c)
      old n l false e = kept-none w i n (ap (λ t. eqb t 1) (o.sort i l) ∙ e) ∙ sym (kept-none v i n e)

      -- nothing is needed of an account just opened
      new : i ≡ v.count → (t : Bool) → is_tm w i ≡ t → kept_need w i ≡ 0
      new q true e = kept-TM w i (far (omega arith)) (eqb-true _ _ e) ∙ ap (need_tm w) q ∙ need_tm-new v w o s
      new q false e = kept-none w i (far (omega arith)) e

      by : Dec (i ≡ 0) → Dec (i < v.count) → Dec (i ≡ v.count) → kept_need w i ≡ kept_need v i
      by (yes e) l d = ap (kept_need w) e ∙ kept-CM w ∙ need_cm-same v w o s ∙ sym (kept-CM v) ∙ sym (ap (kept_need v) e)
      by (no n) (yes l) d = old n l (is_tm v i) refl
      by (no n) (no l) (yes q) = new q (is_tm w i) refl ∙ sym (kept-none v i n (none-v i (omega arith)))
      by (no n) (no l) (no q) = kept-none w i n (none-w i (omega (arith, o.count))) ∙ sym (kept-none v i n (none-v i (omega arith)))

  pub needs-open : needs_afresh w ≡ needs_afresh v
  needs-open = needs-same v w (λ i l. kept-open i)
