-- What is under each account after one row's amounts change, over any view: two places move, the row's TM's and the CM's.
use mathlib.Core.Path.{◌≡◌, refl, sym, ◌∙◌, ap}
use mathlib.Core.Bool.{false}
use mathlib.Core.List.{List}
use mathlib.Core.Logic.{inl, inr}
use Prim.Native.Nat.{ℕ, ◌+◌, ◌-◌, ◌≤◌, ◌<◌}
use native.Mathlib.Omega.{arith}
use native.Mathlib.Decide.{ℕ_discrete}
use lib.ListN.{get_or, set, length-set}
use lib.Seq.{get_or-set_same, get_or-set_other}
use borrow.Author.Tests.{ne_eqb, lt-ltb}
use Rattle.rows.specs.declared.Account.{Account}
use Rattle.rows.specs.View.{View, is_client_of, deemed_of, own_deemed, need_tm, deemed_tm, need_cm, need}
use Rattle.rows.specs.Facts.{Shaped, NoTM}
use Rattle.rows.specs.DeemedUnder.{DeemedUnder, account_at, client_due, member_due, deemed_under_tm, deemed_under_cm}
use Rattle.rows.specs.Inner.{Slot}
use Rattle.rows.proofs.BySort.{Sort, cm, tm, client, cp, sort-of, need-CM, need-TM, need-client, need-CP}
use Rattle.rows.proofs.DeemedUnder.{cm-is, tm-is, none-under}
use Rattle.book.proofs.Differences.{RowChanged, need_tm-aside, need_tm-client, need_tm-own, need_cm-client, need_cm-tm, need_cm-cp, need_cm-own}

need_tm-least : (v : View) (t : ℕ) → v.margin t ≤ need_tm v t
unfolding need_tm
need_tm-least v t = omega arith

need_cm-least : (v : View) → v.margin 0 ≤ need_cm v
unfolding need_cm
need_cm-least v = omega arith

-- a need n of margin m, where g goes and d comes under it
moves : (n m a g d : ℕ) → n + g ≡ m + a + d → m ≤ n → n ≡ m + (a + d - g)
moves n m a g d e l = omega arith

-- the same for the CM's need: all through the TM, all by the row itself, or neither
through : (n m a g d x y x' y' : ℕ) → n + g ≡ m + a + d → m ≤ n → x ≡ g → y ≡ 0 → x' ≡ d → y' ≡ 0 → n ≡ m + (a + (x' + y') - (x + y))
through n m a g d x y x' y' e l p q p' q' = omega arith

alone : (n m a g d x y x' y' : ℕ) → n + g ≡ m + a + d → m ≤ n → x ≡ 0 → y ≡ g → x' ≡ 0 → y' ≡ d → n ≡ m + (a + (x' + y') - (x + y))
alone n m a g d x y x' y' e l p q p' q' = omega arith

-- what an account adds under the CM, by its sort, where d is under it
counts-tm : (a : Account) (d : ℕ) → a.sort ≡ 1 → member_due a d ≡ deemed_of (a.margin + d) a.collateral
counts-tm a d e = rw e (omega arith)

counts-cp : (a : Account) (d : ℕ) → a.sort ≡ 3 → member_due a d ≡ deemed_of a.margin a.collateral
counts-cp a d e = rw e (omega arith)

counts-none : (a : Account) (d : ℕ) → a.sort ≡ 2 → member_due a d ≡ 0
counts-none a d e = rw e

counts_zero : (a : Account) (d : ℕ) → a.sort ≡ 0 → member_due a d ≡ 0
counts_zero a d e = rw e

-- p is the place of the TM that row k names
module _ (v w : View) (k : ℕ) (o : RowChanged v w k) (s : Shaped v) (z : NoTM v) (most : v.count ≤ 256) (under : List ℕ) (h : DeemedUnder v under)
    (p : ℕ) (sl : Slot (v.tm k) p) where
  abbrev x : ℕ
  x = deemed_under_tm (account_at v k) (account_at w k) (get_or under p 0)

  abbrev y : ℕ
  y = deemed_under_cm (account_at v k) (account_at w k) (get_or under k 0) (account_at v p) (get_or under p 0) (get_or under 0 0)

  sort-w : {n : ℕ} → v.sort k ≡ n → w.sort k ≡ n
  sort-w e = o.sort k ∙ e

  -- a row that is no client names place 0, and counts for no TM
  place-zero : (v.sort k ≡ 2 → ⊥) → p ≡ 0
  place-zero ne = let e = z k o.inside ne in sl.named (omega arith) ∙ e

  -- where row k is a client, p is its TM
  module _ (c : v.sort k ≡ 2) where
    its-tm : (v.tm k < k) × (v.sort (v.tm k) ≡ 1)
    its-tm = s.tms k o.inside c

    place : p ≡ v.tm k
    place = sl.named (omega (arith, its-tm.0, o.inside))

    p-aside : p ≡ k → ⊥
    p-aside e = omega (arith, its-tm.0, place)

    tm-sort : v.sort p ≡ 1
    tm-sort = rw place its-tm.1

    due : (u : View) → u.sort k ≡ 2 → u.tm k ≡ v.tm k → client_due (account_at u k) ≡ own_deemed u k
    due u e q = let low : u.tm k < 256 = omega (arith, its-tm.0, o.inside) in rw (e, lt-ltb (u.tm k) 256 low)

    p-is : need_tm v p ≡ v.margin p + get_or under p 0
    p-is = tm-is v s under h p (omega (arith, its-tm.0, place, o.inside)) tm-sort

    -- its TM's need after
    pub tm-after : need_tm w p ≡ v.margin p + x
    tm-after =
        moves (need_tm w p) (v.margin p) (get_or under p 0) (client_due (account_at v k)) (client_due (account_at w k))
        (ap (λ n. need_tm w p + n) (due v c refl) ∙ client-moves ∙ ap (λ n. n + own_deemed w k) p-is
        ∙ ap (λ n. v.margin p + get_or under p 0 + n) (sym (due w (sort-w c) (o.tm k))))
        (rw (← (o.margin p p-aside)) (need_tm-least w p))
      where
        client-moves : need_tm w p + own_deemed v k ≡ need_tm v p + own_deemed w k
        client-moves = rw place (need_tm-client v w k o c (λ e. omega (arith, its-tm.0)))

    cm-client : need_cm w ≡ w.margin 0 + y
    cm-client =
        let m : w.margin 0 ≡ v.margin 0 = o.margin 0 (λ e. omega (arith, its-tm.0)) in
        let q : need_cm w + deemed_tm v p ≡ need_cm v + deemed_tm w p = rw place (need_cm-client v w k o s c) in
        through (need_cm w) (w.margin 0) (get_or under 0 0) (deemed_tm v p) (deemed_tm w p) _ _ _ _
        (q ∙ ap (λ n. n + deemed_tm w p) (cm-is v s under h ∙ ap (λ n. n + get_or under 0 0) (sym m)))
        (need_cm-least w)
        (counts-tm (account_at v p) (get_or under p 0) tm-sort ∙ ap (λ n. deemed_of n (v.collateral p)) (sym p-is))
        (counts-none (account_at v k) (get_or under k 0) c)
        (counts-tm (account_at v p) x tm-sort ∙ ap (λ n. deemed_of n (v.collateral p)) (sym tm-after) ∙ ap (deemed_of (need_tm w p)) (sym (o.collateral p p-aside)))
        (counts-none (account_at w k) (get_or under k 0) (sort-w c))

  -- where it is none, nothing goes through place p
  none-through : (v.sort k ≡ 2 → ⊥) → (d : ℕ) → member_due (account_at v p) d ≡ 0
  none-through ne d = rw (place-zero ne) (counts_zero (account_at v 0) d s.top)

  before : (d : ℕ) → 0 < k → need_cm v + d ≡ w.margin 0 + get_or under 0 0 + d
  before d g = ap (λ n. n + d) (cm-is v s under h ∙ ap (λ n. n + get_or under 0 0) (sym (o.margin 0 (λ e. omega arith))))

  -- the CM's need after
  pub cm-after : need_cm w ≡ w.margin 0 + y
  cm-after = by (sort-of v s k o.inside)
    where
      by : Sort v k → need_cm w ≡ w.margin 0 + y
      by (cm e c) =
          let n : (v.sort k ≡ 2 → ⊥) = λ q. omega arith in
          alone (need_cm w) (w.margin 0) (get_or under 0 0) 0 0 _ _ _ _ (omega (arith, need_cm-own v w k o c, cm-is v s under h)) (need_cm-least w)
          (none-through n (get_or under p 0)) (counts_zero (account_at v k) (get_or under k 0) c) (none-through n x) (counts_zero (account_at w k) (get_or under k 0) (sort-w c))
      by (tm g c) =
          let n : (v.sort k ≡ 2 → ⊥) = λ q. omega arith in
          let own : need_tm w k ≡ w.margin k + get_or under k 0 = omega (arith, need_tm-own v w k o c, tm-is v s under h k o.inside c) in
          alone (need_cm w) (w.margin 0) (get_or under 0 0) (deemed_tm v k) (deemed_tm w k) _ _ _ _
          (need_cm-tm v w k o s c ∙ before (deemed_tm w k) g)
          (need_cm-least w)
          (none-through n (get_or under p 0))
          (counts-tm (account_at v k) (get_or under k 0) c ∙ ap (λ m. deemed_of m (v.collateral k)) (sym (tm-is v s under h k o.inside c)))
          (none-through n x)
          (counts-tm (account_at w k) (get_or under k 0) (sort-w c) ∙ ap (λ m. deemed_of m (w.collateral k)) (sym own))
      by (client g c) = cm-client c
      by (cp g c) =
          let n : (v.sort k ≡ 2 → ⊥) = λ q. omega arith in
          alone (need_cm w) (w.margin 0) (get_or under 0 0) (own_deemed v k) (own_deemed w k) _ _ _ _
          (need_cm-cp v w k o s c ∙ before (own_deemed w k) g)
          (need_cm-least w)
          (none-through n (get_or under p 0))
          (counts-cp (account_at v k) (get_or under k 0) c)
          (none-through n x)
          (counts-cp (account_at w k) (get_or under k 0) (sort-w c))

  -- row k is no client of an account that is not at p
  aside : (i : ℕ) → (i ≡ p → ⊥) → is_client_of v i k ≡ false
  aside i m = by (sort-of v s k o.inside)
    where
      by : Sort v k → is_client_of v i k ≡ false
      by (cm e c) = rw c
      by (tm g c) = rw c
      by (client g c) = rw (c, ne_eqb (v.tm k) i (λ e. m (sym e ∙ sym (place c))))
      by (cp g c) = rw c

  p-below : p < v.count
  p-below = by (ℕ_discrete (v.sort k) 2)
    where
      by : Dec (v.sort k ≡ 2) → p < v.count
      by (yes c) = omega (arith, (its-tm c).0, place c, o.inside)
      by (no c) = omega (arith, place-zero c, s.some)

  abbrev after : List ℕ
  after = set (set under p x) 0 y

  stays : (i : ℕ) → (i ≡ 0 → ⊥) → (i ≡ p → ⊥) → get_or after i 0 ≡ get_or under i 0
  stays i n m = get_or-set_other (set under p x) 0 i y 0 n ∙ get_or-set_other under p i x 0 m

  on-top : need w 0 ≡ w.margin 0 + get_or after 0 0
  on-top =
      need-CM w 0 (o.sort 0 ∙ s.top) ∙ cm-after
      ∙ ap (λ n. w.margin 0 + n) (sym (get_or-set_same (set under p x) 0 y 0 (omega (arith, h.size, length-set under p x))))

  on-p : (p ≡ 0 → ⊥) → need w p ≡ w.margin p + get_or after p 0
  on-p n = by (ℕ_discrete (v.sort k) 2)
    where
      by : Dec (v.sort k ≡ 2) → need w p ≡ w.margin p + get_or after p 0
      by (yes c) =
          omega (
            arith,
            need-TM w p (o.sort p ∙ tm-sort c),
            tm-after c,
            o.margin p (p-aside c),
            get_or-set_other (set under p x) 0 p y 0 n,
            get_or-set_same under p x 0 (omega (arith, h.size, sl.inside)),
          )
      by (no c) = absurd (n (place-zero c))

  on-other : (i : ℕ) → i < v.count → (i ≡ 0 → ⊥) → (i ≡ p → ⊥) → need w i ≡ w.margin i + get_or after i 0
  on-other i l n m = by (sort-of v s i l)
    where
      of : v.sort i ≡ 1 → Dec (i ≡ k) → need_tm w i ≡ w.margin i + get_or under i 0
      of c (yes e) = rw e (let d = rw e at c in omega (arith, need_tm-own v w k o d, tm-is v s under h k o.inside d))
      of c (no e) = omega (arith, need_tm-aside v w k o i e (aside i m), tm-is v s under h i l c, o.margin i e)

      by : Sort v i → need w i ≡ w.margin i + get_or after i 0
      by (cm e c) = absurd (n e)
      by (tm g c) = omega (arith, need-TM w i (o.sort i ∙ c), of c (ℕ_discrete i k), stays i n m)
      by (client g c) = omega (arith, need-client w i (o.sort i ∙ c), none-under v s under h i l (inl c), stays i n m)
      by (cp g c) = omega (arith, need-CP w i (o.sort i ∙ c), none-under v s under h i l (inr c), stays i n m)

  pub under-put : DeemedUnder w (set (set under p (deemed_under_tm (account_at v k) (account_at w k) (get_or under p 0))) 0
      (deemed_under_cm (account_at v k) (account_at w k) (get_or under k 0) (account_at v p) (get_or under p 0) (get_or under 0 0)))
  under-put = record {
    size = length-set (set under p x) 0 y ∙ length-set under p x ∙ h.size;
    each = λ i l. by i (rw o.count at l) (ℕ_discrete i 0) (ℕ_discrete i p);
    beyond = λ i l. far i (rw o.count at l);
  }
    where
      by : (i : ℕ) → i < v.count → Dec (i ≡ 0) → Dec (i ≡ p) → need w i ≡ w.margin i + get_or after i 0
      by i l (yes e) d = rw e on-top
      by i l (no n) (yes e) = rw e (on-p (λ q. n (e ∙ q)))
      by i l (no n) (no m) = on-other i l n m

      far : (i : ℕ) → v.count ≤ i → get_or after i 0 ≡ 0
      far i l = stays i (λ e. omega (arith, s.some)) (λ e. omega (arith, p-below)) ∙ h.beyond i l
