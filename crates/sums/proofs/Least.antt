-- Laws of the first number of which a test holds.
use mathlib.Core.Bool.{Bool, true, false, false≢true}
use mathlib.Core.Path.{◌≡◌, refl, sym, ◌∙◌}
use Prim.Native.Nat.{ℕ, zero, suc, ◌≤◌, ◌<◌}
use native.Mathlib.Omega.{arith}
use native.Mathlib.Decide.{ℕ_discrete}
use Rattle.sums.specs.Sum.{any, least}
use Rattle.sums.specs.Choice.{pick}
use Rattle.sums.proofs.Choices.{pick_yes, pick_no, or_else}
use Rattle.sums.proofs.Sums.{any-fails, any-one, any-from-none}

-- where it holds of none
pub least-none : (n : ℕ) (p : ℕ → Bool) → ((i : ℕ) → i < n → p i ≡ false) → least n p ≡ n
unfolding least
least-none zero p h = refl
least-none (suc n) p h =
    pick_no (any n p) _ _ (any-from-none n p (λ i l. h i (omega arith))) ∙ pick_no (p n) n (suc n) (h n (omega arith))

-- it is i where it holds of i and of none before
pub least-is : (n : ℕ) (p : ℕ → Bool) (i : ℕ) → i < n → p i ≡ true → ((j : ℕ) → j < i → p j ≡ false) → least n p ≡ i
unfolding least
least-is zero p i l e h = absurd (omega arith)
least-is (suc n) p i l e h = by (ℕ_discrete i n) (λ m. least-is n p i m e h)
  where
    by : Dec (i ≡ n) → (i < n → least n p ≡ i) → pick (any n p) (least n p) (pick (p n) n (suc n)) ≡ i
    by (yes q) r =
        pick_no (any n p) _ _ (any-from-none n p (λ j m. h j (omega arith))) ∙ pick_yes (p n) n (suc n) (rw q at e) ∙ sym q
    by (no q) r = pick_yes (any n p) _ _ (any-one n p i (omega arith) e) ∙ r (omega arith)

-- where it holds of some, it holds of the first
pub least-holds : (n : ℕ) (p : ℕ → Bool) → any n p ≡ true → (least n p < n) × (p (least n p) ≡ true)
unfolding least any
least-holds zero p e = absurd (false≢true e)
least-holds (suc n) p e = by (any n p) refl (λ q. least-holds n p q)
  where
    by : (t : Bool) → any n p ≡ t → (any n p ≡ true → (least n p < n) × (p (least n p) ≡ true))
        → (pick (any n p) (least n p) (pick (p n) n (suc n)) < suc n) × (p (pick (any n p) (least n p) (pick (p n) n (suc n))) ≡ true)
    by true q r = rw (pick_yes (any n p) (least n p) (pick (p n) n (suc n)) q) (omega (arith, (r q).0), (r q).1)
    by false q r =
        let e' = or_else (any n p) (p n) e q in
        rw (pick_no (any n p) (least n p) (pick (p n) n (suc n)) q, pick_yes (p n) n (suc n) e') (omega arith, e')

-- it is a number below n of which the test holds, or n
pub least-most : (n : ℕ) (p : ℕ → Bool) → least n p ≤ n
least-most n p = by (any n p) refl
  where
    by : (t : Bool) → any n p ≡ t → least n p ≤ n
    by true e = omega (arith, least-holds n p e)
    by false e = omega (arith, least-none n p (any-fails n p e))

pub least-below : (n : ℕ) (p : ℕ → Bool) → least n p < n → p (least n p) ≡ true
least-below n p l = by (any n p) refl
  where
    by : (t : Bool) → any n p ≡ t → p (least n p) ≡ true
    by true e = (least-holds n p e).1
    by false e = absurd (omega (arith, least-none n p (any-fails n p e)))
