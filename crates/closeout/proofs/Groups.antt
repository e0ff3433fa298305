-- A sum over all accounts, grouped: the CM, each TM with its clients, each CP.
use mathlib.Core.Path.{◌≡◌, refl, sym, ◌∙◌}
use mathlib.Core.Bool.{Bool, true, false, ◌&&◌}
use mathlib.Core.Logic.{⊎_elim}
use Prim.Native.Nat.{ℕ, zero, suc, ◌+◌, ◌<◌}
use native.Mathlib.Omega.{arith}
use lib.Dec.{eqb}
use borrow.Author.Tests.{eqb-true, eq-eqb, ne_eqb}
use Rattle.sums.specs.Sum.{sum, only}
use Rattle.sums.proofs.Sums.{sum-eq, sum-zero, sum-add, sum-single, sum-only, sum-swap, only_zero, only-add}
use Rattle.rows.specs.View.{View, is_cm, is_tm, is_client, is_client_of, members, of_clients}
use Rattle.rows.specs.Facts.{Shaped}

-- f of a TM and of all its clients
abbrev pub group : View → (ℕ → ℕ) → ℕ → ℕ
group v f t = f t + of_clients v t f

module _ (v : View) (s : Shaped v) where
  -- the CM alone has sort 0
  CM-first : (i : ℕ) → i < v.count → v.sort i ≡ 0 → i ≡ 0
  CM-first zero m e = refl
  CM-first (suc i) m e =
      ⊎_elim (λ q. omega arith) (⊎_elim (λ q. omega arith) (λ q. omega arith)) (s.sorts (suc i) (omega arith) m)

  by-sort : (f : ℕ → ℕ) (i : ℕ) → i < v.count → f i ≡ only (is_cm v i) (f i) + members v f f i + only (is_client v i) (f i)
  by-sort f zero m = rw s.top (omega arith)
  by-sort f (suc i) m =
      ⊎_elim (λ e. rw e (omega arith)) (⊎_elim (λ e. rw e (omega arith)) (λ e. rw e (omega arith)))
      (s.sorts (suc i) (omega arith) m)

  of-CM : (f : ℕ → ℕ) → sum v.count (λ i. only (is_cm v i) (f i)) ≡ f 0
  of-CM f =
      sum-single v.count (λ i. only (is_cm v i) (f i)) 0 s.some
      (λ i m ne. only_zero (is_cm v i) (f i) (λ e. absurd (ne (CM-first i m (eqb-true (v.sort i) 0 e)))))
      ∙ rw s.top

  -- a client counts once, with its TM
  once : (f : ℕ → ℕ) (i : ℕ) → i < v.count
      → sum v.count (λ t. only (is_tm v t) (only (is_client_of v t i) (f i))) ≡ only (is_client v i) (f i)
  once f i m = by (is_client v i) refl
    where
      by : (b : Bool) → is_client v i ≡ b
          → sum v.count (λ t. only (is_tm v t) (only (b && eqb (v.tm i) t) (f i))) ≡ only b (f i)
      by false e = sum-zero v.count (λ t. only (is_tm v t) 0) (λ t q. only_zero (is_tm v t) 0 (λ r. refl))
      by true e =
          let h = s.tms i m (eqb-true (v.sort i) 2 e) in
          sum-single v.count (λ t. only (is_tm v t) (only (eqb (v.tm i) t) (f i))) (v.tm i) (omega (arith, h.0))
          (λ t q ne. only_zero (is_tm v t) (only (eqb (v.tm i) t) (f i)) (λ r. rw (ne_eqb (v.tm i) t (λ d. ne (sym d)))))
          ∙ rw (h.1, eq-eqb (v.tm i) (v.tm i) refl)

  of-clients : (f : ℕ → ℕ)
      → sum v.count (λ t. only (is_tm v t) (of_clients v t f)) ≡ sum v.count (λ i. only (is_client v i) (f i))
  of-clients f =
      sum-eq v.count (λ t. only (is_tm v t) (of_clients v t f))
      (λ t. sum v.count (λ i. only (is_tm v t) (only (is_client_of v t i) (f i))))
      (λ t m. sym (sum-only v.count (is_tm v t) (λ i. only (is_client_of v t i) (f i))))
      ∙ sum-swap v.count v.count (λ t i. only (is_tm v t) (only (is_client_of v t i) (f i)))
      ∙ sum-eq v.count (λ i. sum v.count (λ t. only (is_tm v t) (only (is_client_of v t i) (f i))))
      (λ i. only (is_client v i) (f i)) (once f)

  pub sum-by-groups : (f : ℕ → ℕ) → sum v.count f ≡ f 0 + sum v.count (members v (group v f) f)
  sum-by-groups f =
      omega (
        arith,
        sum-eq v.count f (λ i. only (is_cm v i) (f i) + members v f f i + only (is_client v i) (f i)) (by-sort f),
        sum-add v.count (λ i. only (is_cm v i) (f i) + members v f f i) (λ i. only (is_client v i) (f i)),
        sum-add v.count (λ i. only (is_cm v i) (f i)) (members v f f),
        of-CM f,
        of-clients f,
        sum-add v.count (members v f f) (λ t. only (is_tm v t) (of_clients v t f)),
        sum-eq v.count (members v (group v f) f) (λ t. members v f f t + only (is_tm v t) (of_clients v t f))
            (λ t m. omega (arith, only-add (is_tm v t) (f t) (of_clients v t f))),
      )
