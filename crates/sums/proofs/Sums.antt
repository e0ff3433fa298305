-- Laws of sums and of tests over the numbers below a bound.
use mathlib.Core.Path.{◌≡◌, refl, sym, ap}
use mathlib.Core.Bool.{Bool, true, false, ◌&&◌, ◌||◌}
use Prim.Native.Nat.{ℕ, zero, suc, ◌+◌, ◌-◌, ◌*◌, ◌≤◌, ◌<◌}
use native.Mathlib.Omega.{arith}
use native.Mathlib.Numerals.{add-one}
use native.Mathlib.Decide.{ℕ_discrete, dec_lt}
use lib.Dec.{eqb}
use borrow.Author.Tests.{ne_eqb}
use Rattle.sums.specs.Sum.{sum, only, all, any}
use Rattle.sums.proofs.Choices.{test-clash, and_split, and-join, or-fails}

-- one number more
pub sum_step : (n : ℕ) (f : ℕ → ℕ) → sum (n + 1) f ≡ sum n f + f n
unfolding sum
sum_step n f = rw (add-one n)

-- n terms of at most k each come to at most n k
pub sum-most : (n k : ℕ) (f : ℕ → ℕ) → ((i : ℕ) → i < n → f i ≤ k) → sum n f ≤ n * k
unfolding sum
sum-most zero k f h = omega arith
sum-most (suc n) k f h = omega (arith, sum-most n k f (λ i l. h i (omega arith)), h n (omega arith))

pub sum-le : (n : ℕ) (f g : ℕ → ℕ) → ((i : ℕ) → i < n → f i ≤ g i) → sum n f ≤ sum n g
unfolding sum
sum-le zero f g h = omega arith
sum-le (suc n) f g h = omega (arith, sum-le n f g (λ i l. h i (omega arith)), h n (omega arith))

pub sum-eq : (n : ℕ) (f g : ℕ → ℕ) → ((i : ℕ) → i < n → f i ≡ g i) → sum n f ≡ sum n g
unfolding sum
sum-eq zero f g h = omega arith
sum-eq (suc n) f g h = omega (arith, sum-eq n f g (λ i l. h i (omega arith)), h n (omega arith))

pub sum-zero : (n : ℕ) (f : ℕ → ℕ) → ((i : ℕ) → i < n → f i ≡ 0) → sum n f ≡ 0
unfolding sum
sum-zero zero f h = omega arith
sum-zero (suc n) f h = omega (arith, sum-zero n f (λ i l. h i (omega arith)), h n (omega arith))

-- a term is at most the sum
pub sum-term : (n : ℕ) (f : ℕ → ℕ) (k : ℕ) → k < n → f k ≤ sum n f
unfolding sum
sum-term zero f k l = omega arith
sum-term (suc n) f k l = go (ℕ_discrete k n) (λ m. sum-term n f k m)
  where
    go : Dec (k ≡ n) → (k < n → f k ≤ sum n f) → f k ≤ sum n f + f n
    go (yes e) r = rw e (omega arith)
    go (no e) r = omega (arith, r (omega arith))

pub sum-add : (n : ℕ) (f g : ℕ → ℕ) → sum n (λ i. f i + g i) ≡ sum n f + sum n g
unfolding sum
sum-add zero f g = omega arith
sum-add (suc n) f g = omega (arith, sum-add n f g)

-- two sums whose terms differ at k alone differ by just that
pub sum_one : (n : ℕ) (f g : ℕ → ℕ) (k : ℕ) → k < n → ((i : ℕ) → i < n → (i ≡ k → ⊥) → f i ≡ g i)
    → sum n f + g k ≡ sum n g + f k
unfolding sum
sum_one zero f g k l h = omega arith
sum_one (suc n) f g k l h = go (ℕ_discrete n k) (λ m. sum_one n f g k m (λ i m. h i (omega arith)))
  where
    go : Dec (n ≡ k) → (k < n → sum n f + g k ≡ sum n g + f k) → (sum n f + f n) + g k ≡ (sum n g + g n) + f k
    go (yes e) r = rw (← e) (omega (arith, sum-eq n f g (λ i m. h i (omega arith) (λ q. omega arith))))
    go (no e) r = omega (arith, r (omega arith), h n (omega arith) e)

-- a sum with one term
pub sum-single : (n : ℕ) (f : ℕ → ℕ) (k : ℕ) → k < n → ((i : ℕ) → i < n → (i ≡ k → ⊥) → f i ≡ 0) → sum n f ≡ f k
sum-single n f k l h =
    omega (arith, sum_one n f (λ i. 0) k l h, sum-zero n (λ i. 0) (λ i m. refl))

pub only-most : (t : Bool) (x : ℕ) → only t x ≤ x
only-most true x = omega arith
only-most false x = omega arith

-- a term that stands at one place at most
pub sum-once : (n k x : ℕ) → sum n (λ t. only (eqb k t) x) ≤ x
sum-once n k x = by (dec_lt k n)
  where
    by : Dec (k < n) → sum n (λ t. only (eqb k t) x) ≤ x
    by (yes l) =
        omega (arith, sum-single n (λ t. only (eqb k t) x) k l (λ t m ne. ap (λ b. only b x) (ne_eqb k t (λ e. ne (sym e)))), only-most (eqb k k) x)
    by (no l) = omega (arith, sum-zero n (λ t. only (eqb k t) x) (λ t m. ap (λ b. only b x) (ne_eqb k t (λ e. omega arith))))

pub sum-only : (n : ℕ) (b : Bool) (f : ℕ → ℕ) → sum n (λ i. only b (f i)) ≡ only b (sum n f)
sum-only n true f = refl
sum-only n false f = sum-zero n (λ i. 0) (λ i m. refl)

pub sum-swap : (n m : ℕ) (f : ℕ → ℕ → ℕ) → sum n (λ i. sum m (f i)) ≡ sum m (λ j. sum n (λ i. f i j))
unfolding sum
sum-swap zero m f = sym (sum-zero m (λ j. 0) (λ i l. refl))
sum-swap (suc n) m f = omega (arith, sum-swap n m f, sum-add m (λ j. sum n (λ i. f i j)) (f n))

-- a fund of r pays the wants w in rising order until it is gone: what is left unpaid in all
pub waterfall : (n : ℕ) (w : ℕ → ℕ) (r : ℕ) → sum n (λ i. w i - (r - sum i w)) ≡ sum n w - r
unfolding sum
waterfall zero w r = omega arith
waterfall (suc n) w r = omega (arith, waterfall n w r)

pub only-le : (t : Bool) {x y : ℕ} → (t ≡ true → x ≤ y) → only t x ≤ only t y
only-le true h = h refl
only-le false h = omega arith

pub only_zero : (t : Bool) (x : ℕ) → (t ≡ true → x ≡ 0) → only t x ≡ 0
only_zero true x h = h refl
only_zero false x h = refl

pub only-add : (t : Bool) (x y : ℕ) → only t (x + y) ≡ only t x + only t y
only-add true x y = refl
only-add false x y = refl

pub all_none : (p : ℕ → Bool) → all 0 p ≡ true
unfolding all
all_none p = refl

pub all-step : (n : ℕ) (p : ℕ → Bool) → all (n + 1) p ≡ (all n p && p n)
unfolding all
all-step n p = rw (add-one n)

-- what the test of all says of one
pub all-at : (n : ℕ) (p : ℕ → Bool) → all n p ≡ true → (i : ℕ) → i < n → p i ≡ true
unfolding all
all-at zero p e i l = absurd (omega arith)
all-at (suc n) p e i l = by (ℕ_discrete i n) (λ m. all-at n p (and_split (all n p) (p n) e).0 i m)
  where
    by : Dec (i ≡ n) → (i < n → p i ≡ true) → p i ≡ true
    by (yes q) r = rw q (and_split (all n p) (p n) e).1
    by (no q) r = r (omega arith)

pub all_from : (n : ℕ) (p : ℕ → Bool) → ((i : ℕ) → i < n → p i ≡ true) → all n p ≡ true
unfolding all
all_from zero p h = refl
all_from (suc n) p h = and-join (all_from n p (λ i l. h i (omega arith))) (h n (omega arith))

pub all-eq : (n : ℕ) (p q : ℕ → Bool) → ((i : ℕ) → i < n → p i ≡ q i) → all n p ≡ all n q
unfolding all
all-eq zero p q h = refl
all-eq (suc n) p q h = let e = all-eq n p q (λ i l. h i (omega arith)) in let f = h n (omega arith) in rw (e, f)

pub any_none : (p : ℕ → Bool) → any 0 p ≡ false
unfolding any
any_none p = refl

pub any_step : (n : ℕ) (p : ℕ → Bool) → any (n + 1) p ≡ (any n p || p n)
unfolding any
any_step n p = rw (add-one n)

-- where it holds of none
pub any-fails : (n : ℕ) (p : ℕ → Bool) → any n p ≡ false → (i : ℕ) → i < n → p i ≡ false
unfolding any
any-fails zero p e i l = absurd (omega arith)
any-fails (suc n) p e i l = by (ℕ_discrete i n) (λ m. any-fails n p (or-fails (any n p) (p n) e).0 i m)
  where
    by : Dec (i ≡ n) → (i < n → p i ≡ false) → p i ≡ false
    by (yes q) r = rw q (or-fails (any n p) (p n) e).1
    by (no q) r = r (omega arith)

-- it holds of one
pub any-one : (n : ℕ) (p : ℕ → Bool) (i : ℕ) → i < n → p i ≡ true → any n p ≡ true
any-one n p i l e = by (any n p) refl
  where
    by : (t : Bool) → any n p ≡ t → any n p ≡ true
    by true q = q
    by false q = test-clash e (any-fails n p q i l)

pub any-from-none : (n : ℕ) (p : ℕ → Bool) → ((i : ℕ) → i < n → p i ≡ false) → any n p ≡ false
unfolding any
any-from-none zero p h = refl
any-from-none (suc n) p h = rw (any-from-none n p (λ i l. h i (omega arith)), h n (omega arith))
