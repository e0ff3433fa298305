-- The need of each sort of account, what it is deemed, and who is a client of whom.
use mathlib.Core.Path.{◌≡◌, ap, ◌∙◌}
use mathlib.Core.Bool.{true}
use mathlib.Core.Logic.{◌⊎◌, inl, inr}
use Prim.Native.Nat.{ℕ, ◌≤◌, ◌<◌}
use native.Mathlib.Omega.{arith}
use native.Mathlib.Decide.{ℕ_discrete}
use lib.Dec.{eqb}
use borrow.Author.Tests.{eqb-true, eq-eqb}
use Rattle.sums.specs.Choice.{pick}
use Rattle.sums.proofs.Sums.{only-le}
use Rattle.sums.proofs.Choices.{and_split, and-join}
use Rattle.rows.specs.Facts.{Shaped}
use Rattle.rows.specs.View.{View, is_tm, is_client, is_cp, is_client_of, members, deemed_of, own_deemed, need_tm, deemed_tm, need_cm, need, deemed}

-- what account i is, by its sort
pub data Sort (v : View) (i : ℕ) : Type 0 where
  cm : i ≡ 0 → v.sort i ≡ 0 → Sort v i
  tm : 0 < i → v.sort i ≡ 1 → Sort v i
  client : 0 < i → v.sort i ≡ 2 → Sort v i
  cp : 0 < i → v.sort i ≡ 3 → Sort v i

pub sort-of : (v : View) → Shaped v → (i : ℕ) → i < v.count → Sort v i
sort-of v s i l = by (ℕ_discrete i 0)
  where
    other : 0 < i → (v.sort i ≡ 1) ⊎ ((v.sort i ≡ 2) ⊎ (v.sort i ≡ 3)) → Sort v i
    other p (inl e) = tm p e
    other p (inr (inl e)) = client p e
    other p (inr (inr e)) = cp p e

    by : Dec (i ≡ 0) → Sort v i
    by (yes e) = cm e (ap v.sort e ∙ s.top)
    by (no e) = other (omega arith) (s.sorts i (omega arith) l)

module _ (v : View) (i : ℕ) where
  pub need-CM : v.sort i ≡ 0 → need v i ≡ need_cm v
  unfolding need pick
  need-CM e = rw e

  pub need-TM : v.sort i ≡ 1 → need v i ≡ need_tm v i
  unfolding need pick
  need-TM e = rw e

  pub need-client : v.sort i ≡ 2 → need v i ≡ v.margin i
  unfolding need pick
  need-client e = rw e

  pub need-CP : v.sort i ≡ 3 → need v i ≡ v.margin i
  unfolding need pick
  need-CP e = rw e

  pub deemed-TM : v.sort i ≡ 1 → deemed v i ≡ deemed_tm v i
  deemed-TM e = ap (λ n. deemed_of n (v.collateral i)) (need-TM e)

  pub deemed-client : v.sort i ≡ 2 → deemed v i ≡ own_deemed v i
  deemed-client e = ap (λ n. deemed_of n (v.collateral i)) (need-client e)

  pub deemed-CP : v.sort i ≡ 3 → deemed v i ≡ own_deemed v i
  deemed-CP e = ap (λ n. deemed_of n (v.collateral i)) (need-CP e)

module _ (v : View) (t i : ℕ) where
  pub client-sort : is_client_of v t i ≡ true → v.sort i ≡ 2
  client-sort e = eqb-true _ _ (and_split (is_client v i) (eqb (v.tm i) t) e).0

  pub client-tm : is_client_of v t i ≡ true → v.tm i ≡ t
  client-tm e = eqb-true _ _ (and_split (is_client v i) (eqb (v.tm i) t) e).1

  pub client-of : v.sort i ≡ 2 → v.tm i ≡ t → is_client_of v t i ≡ true
  client-of c e = and-join (eq-eqb _ _ c) (eq-eqb _ _ e)

-- f at a TM and g at a CP decide what a member counts
pub members-le : (v : View) (f g f' g' : ℕ → ℕ) (i : ℕ) → (v.sort i ≡ 1 → f i ≤ f' i) → (v.sort i ≡ 3 → g i ≤ g' i)
    → members v f g i ≤ members v f' g' i
members-le v f g f' g' i p q =
    omega (
      arith,
      only-le (is_tm v i) (λ e. p (eqb-true (v.sort i) 1 e)),
      only-le (is_cp v i) (λ e. q (eqb-true (v.sort i) 3 e)),
    )
