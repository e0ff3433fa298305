-- Two lists in which every account has the same own records have the same records, each as often.
use mathlib.Core.List.{List, [], ◌∷◌, ◌++◌, map, map-append}
use mathlib.Core.Path.{◌≡◌, refl, sym, ap, subst, ◌∙◌}
use Prim.Native.Nat.{ℕ}
use native.Mathlib.Omega.{arith}
use native.Mathlib.Decide.{ℕ_discrete}
use lib.Dec.{eqb}
use lib.ListN.{length}
use Rattle.sums.specs.Choice.{pick}
use Rattle.dayfile.specs.declared.Record.{Record}
use Rattle.promises.specs.Orders.{unnumbered, own_of, TwoOrders, Reordered, none, one}
use Rattle.promises.proofs.OwnRecords.{own-here, own-other, own-none, as_many}

-- where the first of an account's own records stands
record First (number : ℕ) (x : Record) (own qs : List Record) : Type 0 where
  before : List Record
  after : List Record
  record' : Record
  is : qs ≡ before ++ (record' ∷ after)
  the_same : unnumbered record' ≡ x
  the_rest : own_of number (before ++ after) ≡ own
  others : (n : ℕ) → (n ≡ number → ⊥) → own_of n qs ≡ own_of n (before ++ after)

own-cons : (n : ℕ) (q : Record) (xs ys : List Record) → own_of n xs ≡ own_of n ys → own_of n (q ∷ xs) ≡ own_of n (q ∷ ys)
unfolding own_of
own-cons n q xs ys e = ap (λ o. pick (eqb q.account n) (unnumbered q ∷ o) o) e

cons-first : {x y : Record} {xs ys : List Record} → x ∷ xs ≡ y ∷ ys → (x ≡ y) × (xs ≡ ys)
cons-first e = (cc, cc)

find : (number : ℕ) (x : Record) (own qs : List Record) → own_of number qs ≡ x ∷ own → First number x own qs
find number x own [] e = absurd (let z = ap length (sym (own-none number) ∙ e) in omega arith)
find number x own (q ∷ qs) e = by (ℕ_discrete q.account number) (λ f. find number x own qs f)
  where
    by : Dec (q.account ≡ number) → (own_of number qs ≡ x ∷ own → First number x own qs) → First number x own (q ∷ qs)
    by (yes a) go =
        let f : unnumbered q ∷ own_of number qs ≡ x ∷ own = sym (subst (λ n. own_of n (q ∷ qs) ≡ unnumbered q ∷ own_of n qs) a (own-here q qs)) ∙ e in
        record {
          before = [];
          after = qs;
          record' = q;
          is = refl;
          the_same = (cons-first f).0;
          the_rest = (cons-first f).1;
          others = λ n ne. own-other q qs n (λ z. ne (z ∙ a));
        }
    by (no a) go =
        let g = go (sym (own-other q qs number (λ z. a (sym z))) ∙ e) in
        record {
          before = q ∷ g.before;
          after = g.after;
          record' = g.record';
          is = ap (λ l. q ∷ l) g.is;
          the_same = g.the_same;
          the_rest = own-other q (g.before ++ g.after) number (λ z. a (sym z)) ∙ g.the_rest;
          others = λ n ne. own-cons n q qs (g.before ++ g.after) (g.others n ne);
        }

pub two-orders-are-reordered : (rs qs : List Record) → TwoOrders rs qs → Reordered (map unnumbered rs) (map unnumbered qs)
two-orders-are-reordered [] [] same = none
two-orders-are-reordered [] (q ∷ qs) same = absurd (let z = as_many [] (q ∷ qs) same in omega arith)
two-orders-are-reordered (r ∷ rs) qs same =
    let f = find r.account (unnumbered r) (own_of r.account rs) qs (sym (same r.account) ∙ own-here r rs) in
    let rest : Reordered (map unnumbered rs) (map unnumbered f.before ++ map unnumbered f.after) =
    subst (Reordered (map unnumbered rs)) (map-append unnumbered f.before f.after) (two-orders-are-reordered rs (f.before ++ f.after) (left f)) in
    subst (Reordered (unnumbered r ∷ map unnumbered rs))
    (ap (λ x. map unnumbered f.before ++ (x ∷ map unnumbered f.after)) (sym f.the_same)
    ∙ sym (map-append unnumbered f.before (f.record' ∷ f.after))
    ∙ ap (map unnumbered) (sym f.is))
    (one (map unnumbered f.before) (map unnumbered f.after) rest)
  where
    left : (f : First r.account (unnumbered r) (own_of r.account rs) qs) → TwoOrders rs (f.before ++ f.after)
    left f n = by (ℕ_discrete n r.account)
      where
        by : Dec (n ≡ r.account) → own_of n rs ≡ own_of n (f.before ++ f.after)
        by (yes e) = ap (λ m. own_of m rs) e ∙ sym f.the_rest ∙ ap (λ m. own_of m (f.before ++ f.after)) (sym e)
        by (no e) = sym (own-other r rs n e) ∙ same n ∙ f.others n e
