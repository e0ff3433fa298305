-- Each account's own records: how many there are in all, and what holds of each of them.
use mathlib.Core.Bool.{Bool, true, false}
use mathlib.Core.List.{List, [], ◌∷◌}
use mathlib.Core.Path.{◌≡◌, refl, sym, ap, ◌∙◌}
use Prim.Native.Nat.{ℕ, ◌+◌, ◌≤◌}
use native.Mathlib.Omega.{arith}
use lib.Dec.{eqb}
use lib.ListN.{length}
use borrow.Author.Tests.{eq-eqb, ne_eqb, eqb-true}
use Rattle.sums.specs.Sum.{sum}
use Rattle.sums.specs.Choice.{pick}
use Rattle.sums.proofs.Sums.{sum-eq, sum_one, sum-zero}
use Rattle.sums.proofs.Choices.{pick_yes, pick_no}
use Rattle.dayfile.specs.declared.Record.{Record}
use Rattle.promises.specs.Sequences.{EachCode}
use Rattle.promises.specs.Orders.{unnumbered, own_of, TwoOrders}

-- a record is one of its account's own, ..
pub own-here : (r : Record) (rs : List Record) → own_of r.account (r ∷ rs) ≡ unnumbered r ∷ own_of r.account rs
unfolding own_of
own-here r rs = pick_yes (eqb r.account r.account) _ _ (eq-eqb r.account r.account refl)

-- .. and no other's
pub own-other : (r : Record) (rs : List Record) (number : ℕ) → (number ≡ r.account → ⊥) → own_of number (r ∷ rs) ≡ own_of number rs
unfolding own_of
own-other r rs number ne = pick_no (eqb r.account number) _ _ (ne_eqb _ _ (λ z. ne (sym z)))

pub own-none : (number : ℕ) → own_of number [] ≡ []
unfolding own_of
own-none number = refl

-- ---- as many in both

-- a number above every account named
unfoldable farthest : List Record → ℕ
farthest [] = 0
farthest (r ∷ rs) = r.account + 1 + farthest rs

lengths : (n : ℕ) (rs : List Record) → farthest rs ≤ n → sum n (λ a. length (own_of a rs)) ≡ length rs
unfolding farthest
lengths n [] h = sum-zero n (λ a. length (own_of a [])) (λ i l. ap length (own-none i))
lengths n (r ∷ rs) h =
    omega (
      arith,
      lengths n rs (omega arith),
      sum_one n (λ a. length (own_of a (r ∷ rs))) (λ a. length (own_of a rs)) r.account (omega arith) (λ i l ne. ap length (own-other r rs i ne)),
      ap length (own-here r rs),
    )

pub as_many : (rs qs : List Record) → TwoOrders rs qs → length rs ≡ length qs
as_many rs qs same =
    let n = farthest rs + farthest qs in
    sym (lengths n rs (omega arith))
    ∙ sum-eq n (λ a. length (own_of a rs)) (λ a. length (own_of a qs)) (λ a l. ap length (same a))
    ∙ lengths n qs (omega arith)

-- ---- what holds of each record's code

module _ (p : ℕ → Type 0) where
  own-codes : (number : ℕ) (rs : List Record) → EachCode p rs → EachCode p (own_of number rs)
  unfolding EachCode own_of pick
  own-codes number [] h = tt
  own-codes number (r ∷ rs) h = by (eqb r.account number) (own-codes number rs h.1)
    where
      by : (t : Bool) → EachCode p (own_of number rs) → EachCode p (pick t (unnumbered r ∷ own_of number rs) (own_of number rs))
      by true rest = (h.0, rest)
      by false rest = rest

  codes-own : (rs : List Record) → ((number : ℕ) → EachCode p (own_of number rs)) → EachCode p rs
  unfolding EachCode own_of pick
  codes-own [] h = tt
  codes-own (r ∷ rs) h = (here.0, codes-own rs rest)
    where
      here : EachCode p (unnumbered r ∷ own_of r.account rs)
      here = rw (own-here r rs) at (h r.account)

      rest : (number : ℕ) → EachCode p (own_of number rs)
      rest number = by (eqb r.account number) (h number)
        where
          by : (t : Bool) → EachCode p (pick t (unnumbered r ∷ own_of number rs) (own_of number rs)) → EachCode p (own_of number rs)
          by true g = g.1
          by false g = g

  -- what holds of one order's codes holds of the other's
  pub codes-both : (rs qs : List Record) → TwoOrders rs qs → EachCode p rs → EachCode p qs
  codes-both rs qs same h = codes-own qs (λ number. rw (same number) at (own-codes number rs h))

-- ---- two neighbours of different accounts change places

pub neighbours-swapped : (r q r' q' : Record) (rs : List Record) → unnumbered r' ≡ unnumbered r → unnumbered q' ≡ unnumbered q → (r.account ≡ q.account → ⊥)
    → TwoOrders (r ∷ q ∷ rs) (q' ∷ r' ∷ rs)
unfolding own_of pick
neighbours-swapped r q r' q' rs e f apart number =
    by (eqb r.account number) (eqb q.account number) refl refl
    ∙ sym (λ i. pick (eqb (f i).account number) (f i ∷ pick (eqb (e i).account number) (e i ∷ own) own) (pick (eqb (e i).account number) (e i ∷ own) own))
  where
    own : List Record
    own = own_of number rs

    by : (s t : Bool) → eqb r.account number ≡ s → eqb q.account number ≡ t
        → pick s (unnumbered r ∷ pick t (unnumbered q ∷ own) own) (pick t (unnumbered q ∷ own) own)
        ≡ pick t (unnumbered q ∷ pick s (unnumbered r ∷ own) own) (pick s (unnumbered r ∷ own) own)
    by true true x y = absurd (apart (eqb-true _ _ x ∙ sym (eqb-true _ _ y)))
    by true false x y = refl
    by false true x y = refl
    by false false x y = refl
