-- An account opened: what is under each account stays, over any view.
use mathlib.Core.Path.{◌≡◌, sym, ◌∙◌}
use mathlib.Core.List.{List}
use mathlib.Core.Logic.{◌⊎◌, inl, inr}
use Prim.Native.Nat.{ℕ, ◌+◌, ◌<◌}
use native.Mathlib.Omega.{arith}
use native.Mathlib.Decide.{ℕ_discrete}
use lib.ListN.{get_or}
use Rattle.rows.specs.View.{View, need}
use Rattle.rows.specs.Facts.{Shaped}
use Rattle.rows.specs.DeemedUnder.{DeemedUnder}
use Rattle.rows.proofs.BySort.{Sort, cm, tm, client, cp, sort-of, need-CM, need-TM, need-client, need-CP}
use Rattle.rows.proofs.DeemedUnder.{cm-is, tm-is, none-under}
use Rattle.book.proofs.Opens.{Opened, need_tm-same, need_tm-new, need_cm-same}

module _ (v w : View) (o : Opened v w) (s : Shaped v) (under : List ℕ) (h : DeemedUnder v under) where
  pub under-open : DeemedUnder w under
  under-open = record {
    size = h.size;
    each = λ i l. by i (omega (arith, o.count)) (ℕ_discrete i v.count);
    beyond = λ i l. h.beyond i (omega (arith, o.count));
  }
    where
      old : (i : ℕ) → i < v.count → Sort v i → need w i ≡ w.margin i + get_or under i 0
      old i l (cm e c) =
          rw e (omega (arith, need-CM w 0 (o.sort 0 s.some ∙ s.top), need_cm-same v w o s, cm-is v s under h, o.margin 0 s.some))
      old i l (tm g c) = omega (arith, need-TM w i (o.sort i l ∙ c), need_tm-same v w o s i l, tm-is v s under h i l c, o.margin i l)
      old i l (client g c) = omega (arith, need-client w i (o.sort i l ∙ c), none-under v s under h i l (inl c))
      old i l (cp g c) = omega (arith, need-CP w i (o.sort i l ∙ c), none-under v s under h i l (inr c))

      new : (w.sort v.count ≡ 1) ⊎ ((w.sort v.count ≡ 2) ⊎ (w.sort v.count ≡ 3)) → need w v.count ≡ w.margin v.count
      new (inl e) = need-TM w v.count e ∙ need_tm-new v w o s ∙ sym o.no-margin
      new (inr (inl e)) = need-client w v.count e
      new (inr (inr e)) = need-CP w v.count e

      by : (i : ℕ) → i < v.count + 1 → Dec (i ≡ v.count) → need w i ≡ w.margin i + get_or under i 0
      by i l (yes e) = rw e (omega (arith, new o.new-sort, h.beyond v.count (omega arith)))
      by i l (no n) = old i (omega arith) (sort-of v s i (omega arith))
