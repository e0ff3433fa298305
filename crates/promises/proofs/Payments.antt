-- What the columns of a close-out come to by payers, for any losses over a view of the right shape: the laws behind WhoPays.
use mathlib.Core.Bool.{Bool, true, false, ◌&&◌}
use mathlib.Core.Logic.{◌⊎◌, inl, inr}
use mathlib.Core.Path.{◌≡◌, refl, sym, ap, ◌∙◌}
use Prim.Native.Nat.{ℕ, ◌+◌, ◌≤◌, ◌<◌, min}
use native.Mathlib.Omega.{arith}
use lib.Dec.{eqb}
use lib.ListN.{get_or}
use borrow.Author.Tests.{eqb-true, eq-eqb, ne_eqb}
use Rattle.sums.specs.Sum.{sum, only}
use Rattle.sums.proofs.Sums.{sum-eq, sum-zero, sum-add, sum-single, sum-only, sum-swap, only_zero}
use Rattle.rows.specs.View.{View, is_client, is_client_of, of_clients}
use Rattle.rows.specs.Facts.{Shaped}
use Rattle.rows.proofs.BySort.{Sort, cm, tm, client, cp, sort-of, client-sort, client-tm, client-of}
use Rattle.closeout.specs.Columns.{is_client_or_cp, own_column, tm_column, cm_column, uncovered, four, total}
use Rattle.closeout.proofs.TwoRounds.{adds-up, pays-own, no-TM, CM's-third, TM-has, CM-has}
use Rattle.promises.specs.Payers.{taken_out, pays_in_all}

-- account i's amount number k
abbrev pub amount_of : View → (ℕ → ℕ) → ℕ → ℕ → ℕ
amount_of v l i k = get_or (four v l i) k 0

-- a sum with a test that holds at k alone
at_one : (n k : ℕ) (t : ℕ → Bool) (f : ℕ → ℕ) → k < n → t k ≡ true → ((i : ℕ) → (i ≡ k → ⊥) → t i ≡ false) → sum n (λ i. only (t i) (f i)) ≡ f k
at_one n k t f m e h =
    sum-single n (λ i. only (t i) (f i)) k m (λ i q ne. ap (λ x. only x (f i)) (h i ne)) ∙ ap (λ x. only x (f k)) e

-- a sum of sums of three
three : (n : ℕ) (a f g h : ℕ → ℕ) → ((i : ℕ) → a i ≡ f i + g i + h i) → sum n a ≡ sum n f + sum n g + sum n h
three n a f g h e =
    omega (arith, sum-eq n a (λ i. f i + g i + h i) (λ i m. e i), sum-add n (λ i. f i + g i) h, sum-add n f g)

by-columns : (v : View) (l : ℕ → ℕ) (p i : ℕ)
    → taken_out v (amount_of v l) p i ≡ only (eqb p i) (own_column v l i) + only (is_client_of v p i) (tm_column v l i) + only (eqb p 0) (cm_column v l i)
unfolding taken_out four
by-columns v l p i = refl

-- Of the columns, for any losses l over a view of the right shape, as every sound book's is. Account 0 is the CM; sort 1 is a TM, 2 a client, 3 a CP.
module _ (v : View) (s : Shaped v) (l : ℕ → ℕ) where
  -- a client's TM is a TM of lower number: neither the client itself nor the CM
  no-client : (p i x : ℕ) → i < v.count → (p < i → v.sort p ≡ 1 → ⊥) → only (is_client_of v p i) x ≡ 0
  no-client p i x m h = only_zero (is_client_of v p i) x (λ q. absurd (by q (s.tms i m (client-sort v p i q))))
    where
      by : is_client_of v p i ≡ true → (v.tm i < i) × (v.sort (v.tm i) ≡ 1) → ⊥
      by q t = h (omega (arith, t.0, client-tm v p i q)) (ap v.sort (sym (client-tm v p i q)) ∙ t.1)

  not-the-CM : (p x : ℕ) → (v.sort p ≡ 0 → ⊥) → only (eqb p 0) x ≡ 0
  not-the-CM p x h = only_zero (eqb p 0) x (λ e. absurd (h (ap v.sort (eqb-true p 0 e) ∙ s.top)))

  -- Each column comes out of the collateral that it names: the first out of the account's own, a client's second out of its TM's, and the third, of any
  -- account but the CM, out of the CM's; ..
  pub each-column-from-the-one-it-names : (i : ℕ) → i < v.count
      → (taken_out v (amount_of v l) i i ≡ own_column v l i)
      × (v.sort i ≡ 2 → taken_out v (amount_of v l) (v.tm i) i ≡ tm_column v l i)
      × (0 < i → taken_out v (amount_of v l) 0 i ≡ cm_column v l i)
  each-column-from-the-one-it-names i m = (
    omega (
      arith,
      by-columns v l i i,
      ap (λ x. only x (own_column v l i)) (eq-eqb i i refl),
      no-client i i (tm_column v l i) m (λ q e. omega arith),
      only_zero (eqb i 0) (cm_column v l i) (λ e. ap (cm_column v l) (eqb-true i 0 e) ∙ CM's-third v l),
    ),
    (λ e.
        let t = s.tms i m e in
        omega (
          arith,
          by-columns v l (v.tm i) i,
          ap (λ x. only x (own_column v l i)) (ne_eqb (v.tm i) i (λ q. omega (arith, t.0))),
          ap (λ x. only x (tm_column v l i)) (client-of v (v.tm i) i e refl),
          not-the-CM (v.tm i) (cm_column v l i) (λ q. omega (arith, t.1)),
        )),
    (λ o.
        omega (
          arith,
          by-columns v l 0 i,
          ap (λ x. only x (own_column v l i)) (ne_eqb 0 i (λ q. omega arith)),
          no-client 0 i (tm_column v l i) m (λ q e. omega (arith, s.top)),
        )),
  )

  -- .. and nothing comes out of any other's.
  pub nothing-from-any-other : (p i : ℕ) → (p ≡ i → ⊥) → (is_client_of v p i ≡ true → ⊥) → (p ≡ 0 → ⊥) → taken_out v (amount_of v l) p i ≡ 0
  nothing-from-any-other p i a c z =
      omega (
        arith,
        by-columns v l p i,
        ap (λ x. only x (own_column v l i)) (ne_eqb p i a),
        only_zero (is_client_of v p i) (tm_column v l i) (λ q. absurd (c q)),
        ap (λ x. only x (cm_column v l i)) (ne_eqb p 0 z),
      )

  -- the TM column has one payer, or is 0
  one-TM : (i : ℕ) → i < v.count → sum v.count (λ p. only (is_client_of v p i) (tm_column v l i)) ≡ tm_column v l i
  one-TM i m = by (is_client v i) refl
    where
      by : (b : Bool) → is_client v i ≡ b → sum v.count (λ p. only (b && eqb (v.tm i) p) (tm_column v l i)) ≡ tm_column v l i
      by true e =
          at_one v.count (v.tm i) (eqb (v.tm i)) (λ p. tm_column v l i) (omega (arith, (s.tms i m (eqb-true (v.sort i) 2 e)).0))
          (eq-eqb (v.tm i) (v.tm i) refl) (λ p ne. ne_eqb (v.tm i) p (λ q. ne (sym q)))
      by false e = sum-zero v.count (λ p. 0) (λ p q. refl) ∙ sym (no-TM v l i e)

  -- What an account's loss takes out of all accounts' collateral, added up, and its uncovered part are its loss.
  pub taken-and-uncovered-add-up : (i : ℕ) → i < v.count → sum v.count (λ p. taken_out v (amount_of v l) p i) + uncovered v l i ≡ l i
  taken-and-uncovered-add-up i m =
      omega (
        arith,
        three v.count (λ p. taken_out v (amount_of v l) p i) (λ p. only (eqb p i) (own_column v l i)) (λ p. only (is_client_of v p i) (tm_column v l i))
            (λ p. only (eqb p 0) (cm_column v l i)) (λ p. by-columns v l p i),
        at_one v.count i (λ p. eqb p i) (λ p. own_column v l i) m (eq-eqb i i refl) (λ p. ne_eqb p i),
        one-TM i m,
        at_one v.count 0 (λ p. eqb p 0) (λ p. cm_column v l i) s.some refl (λ p. ne_eqb p 0),
        adds-up v l i,
      )

  -- p pays its own column, its clients' TM column and, where it is the CM, the whole CM column
  pays-columns : (p : ℕ) → p < v.count
      → pays_in_all v (amount_of v l) p ≡ own_column v l p + of_clients v p (tm_column v l) + only (eqb p 0) (sum v.count (cm_column v l))
  pays-columns p m =
      omega (
        arith,
        three v.count (taken_out v (amount_of v l) p) (λ i. only (eqb p i) (own_column v l i)) (λ i. only (is_client_of v p i) (tm_column v l i))
            (λ i. only (eqb p 0) (cm_column v l i)) (by-columns v l p),
        at_one v.count p (eqb p) (own_column v l) m (eq-eqb p p refl) (λ i ne. ne_eqb p i (λ q. ne (sym q))),
        sum-only v.count (eqb p 0) (cm_column v l),
      )

  no-clients : (p : ℕ) → (v.sort p ≡ 1 → ⊥) → of_clients v p (tm_column v l) ≡ 0
  no-clients p h = sum-zero v.count (λ i. only (is_client_of v p i) (tm_column v l i)) (λ i m. no-client p i (tm_column v l i) m (λ q. h))

  -- A client or CP pays in all exactly the lesser of its own loss and its own collateral.
  pub a-client-or-CP-pays : (p : ℕ) → p < v.count → (v.sort p ≡ 2) ⊎ (v.sort p ≡ 3) → pays_in_all v (amount_of v l) p ≡ min (l p) (v.collateral p)
  a-client-or-CP-pays p m = by
    where
      alone : is_client_or_cp v p ≡ true → (v.sort p ≡ 1 → ⊥) → (v.sort p ≡ 0 → ⊥) → pays_in_all v (amount_of v l) p ≡ min (l p) (v.collateral p)
      alone e t c = omega (arith, pays-columns p m, pays-own v l p e, no-clients p t, not-the-CM p (sum v.count (cm_column v l)) c)

      by : (v.sort p ≡ 2) ⊎ (v.sort p ≡ 3) → pays_in_all v (amount_of v l) p ≡ min (l p) (v.collateral p)
      by (inl e) = alone (rw e) (λ q. omega arith) (λ q. omega arith)
      by (inr e) = alone (rw e) (λ q. omega arith) (λ q. omega arith)

  -- Nobody pays in all more than its collateral: not a TM or the CM, who pay for others too, nor a client or CP.
  pub nobody-pays-more : (p : ℕ) → p < v.count → pays_in_all v (amount_of v l) p ≤ v.collateral p
  nobody-pays-more p m = by (sort-of v s p m)
    where
      by : Sort v p → pays_in_all v (amount_of v l) p ≤ v.collateral p
      by (cm z e) = rw z (omega (arith, pays-columns 0 s.some, no-clients 0 (λ q. omega (arith, s.top)), CM-has v s l))
      by (tm o e) = omega (arith, pays-columns p m, not-the-CM p (sum v.count (cm_column v l)) (λ q. omega arith), TM-has v s l p e)
      by (client o e) = omega (arith, a-client-or-CP-pays p m (inl e))
      by (cp o e) = omega (arith, a-client-or-CP-pays p m (inr e))

  -- What all accounts pay, added up, and the total uncovered are all losses, added up.
  pub payments-and-total-add-up : sum v.count (pays_in_all v (amount_of v l)) + total v l ≡ sum v.count l
  payments-and-total-add-up =
      omega (
        arith,
        sum-swap v.count v.count (taken_out v (amount_of v l)),
        sum-add v.count (λ i. sum v.count (λ p. taken_out v (amount_of v l) p i)) (uncovered v l),
        sum-eq v.count (λ i. sum v.count (λ p. taken_out v (amount_of v l) p i) + uncovered v l i) l taken-and-uncovered-add-up,
      )
