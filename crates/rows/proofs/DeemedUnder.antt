-- What is deemed directly under each account: from the sums, and the needs that follow.
use mathlib.Core.Path.{◌≡◌, sym, ◌∙◌, ap}
use mathlib.Core.List.{List}
use mathlib.Core.Logic.{◌⊎◌, inl, inr}
use Prim.Native.Nat.{ℕ, ◌+◌, ◌≤◌, ◌<◌}
use native.Mathlib.Omega.{arith}
use native.Mathlib.Decide.{dec_lt}
use lib.ListN.{get_or, set, length-set, get_or-eq_default}
use lib.Seq.{get_or-set_same, get_or-set_other}
use Rattle.sums.specs.Sum.{only}
use Rattle.sums.proofs.Sums.{sum-zero, only_zero}
use Rattle.rows.specs.View.{View, is_client_of, own_deemed, need_tm, need_cm, need}
use Rattle.rows.specs.Facts.{Shaped}
use Rattle.rows.specs.DeemedUnder.{DeemedUnder}
use Rattle.rows.specs.Inner.{ClientSums, clients_below, members_below}
use Rattle.rows.proofs.NeedSums.{need-cm-sum, need-tm-sum, need-own}
use Rattle.rows.proofs.BySort.{Sort, cm, tm, client, cp, sort-of, client-sort, client-tm, need-CM, need-TM, need-client, need-CP}

-- the sums of clients, with what the members are deemed put at the CM's place
module _ (v : View) (s : Shaped v) (most : v.count ≤ 256) (under : List ℕ) (h : ClientSums v under) where
  -- only a TM has clients
  no-clients : (t : ℕ) → (t < v.count → v.sort t ≡ 1 → ⊥) → clients_below v t v.count ≡ 0
  unfolding clients_below
  no-clients t ne =
      sum-zero v.count (λ i. only (is_client_of v t i) (own_deemed v i))
      (λ i l. only_zero (is_client_of v t i) (own_deemed v i) (λ e.
      let its = s.tms i l (client-sort v t i e) in
      let is = client-tm v t i e in
      absurd (ne (omega arith) (sym (ap v.sort is) ∙ its.1))))

  pub under_first : DeemedUnder v (set under 0 (members_below v v.count))
  under_first = record {
    size = length-set under 0 all ∙ h.size;
    each = λ i l. by i l (sort-of v s i l);
    beyond = λ i l. far i l (dec_lt i 256);
  }
    where
      all : ℕ
      all = members_below v v.count

      at : (i : ℕ) → 0 < i → i < 256 → get_or (set under 0 all) i 0 ≡ clients_below v i v.count
      at i p l = get_or-set_other under 0 i all 0 (λ e. omega arith) ∙ h.each i l

      own : (i : ℕ) → 0 < i → i < v.count → 1 < v.sort i → need v i ≡ v.margin i + get_or (set under 0 all) i 0
      own i p l m = omega (arith, need-own v i m, at i p (omega arith), no-clients i (λ q e. omega arith))

      by : (i : ℕ) → i < v.count → Sort v i → need v i ≡ v.margin i + get_or (set under 0 all) i 0
      by i l (cm e c) =
          rw e (need-CM v 0 s.top ∙ need-cm-sum v
          ∙ ap (λ x. v.margin 0 + x) (sym (get_or-set_same under 0 all 0 (omega (arith, h.size)))))
      by i l (tm p c) = omega (arith, need-TM v i c, need-tm-sum v i, at i p (omega arith))
      by i l (client p c) = own i p l (omega arith)
      by i l (cp p c) = own i p l (omega arith)

      far : (i : ℕ) → v.count ≤ i → Dec (i < 256) → get_or (set under 0 all) i 0 ≡ 0
      far i l (yes q) = at i (omega (arith, s.some)) q ∙ no-clients i (λ q e. omega arith)
      far i l (no q) = get_or-eq_default (set under 0 all) 0 (omega (arith, h.size, length-set under 0 all))

module _ (v : View) (s : Shaped v) (under : List ℕ) (h : DeemedUnder v under) where
  pub cm-is : need_cm v ≡ v.margin 0 + get_or under 0 0
  cm-is = sym (need-CM v 0 s.top) ∙ h.each 0 s.some

  pub tm-is : (t : ℕ) → t < v.count → v.sort t ≡ 1 → need_tm v t ≡ v.margin t + get_or under t 0
  tm-is t l c = sym (need-TM v t c) ∙ h.each t l

  -- nothing is under a client or a CP
  pub none-under : (i : ℕ) → i < v.count → (v.sort i ≡ 2) ⊎ (v.sort i ≡ 3) → get_or under i 0 ≡ 0
  none-under i l (inl e) = omega (arith, h.each i l, need-client v i e)
  none-under i l (inr e) = omega (arith, h.each i l, need-CP v i e)
