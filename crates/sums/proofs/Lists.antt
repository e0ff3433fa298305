-- Laws of lists by their places.
use mathlib.Core.Path.{◌≡◌, refl, sym, ◌∙◌}
use mathlib.Core.List.{List, [], ◌∷◌, ◌++◌}
use Prim.Native.Nat.{ℕ, zero, suc, ◌+◌, ◌<◌}
use native.Mathlib.Omega.{arith}
use native.Mathlib.Decide.{ℕ_discrete}
use lib.ListN.{length, get_or, set, replicate, length-append, length-set, get_or-append}
use lib.Seq.{ext_get_or, get_or_at, get_or-set_same, get_or-set_other}
use Rattle.sums.specs.Listed.{list_to}

module _ {A : Type 0} where
  pub length-list_to : (f : ℕ → A) (n : ℕ) → length (list_to f n) ≡ n
  unfolding list_to
  length-list_to f zero = refl
  length-list_to f (suc n) = omega (arith, length-append (list_to f n) (f n ∷ []), length-list_to f n)

  pub at-list_to : (f : ℕ → A) (n i : ℕ) (d : A) → i < n → get_or (list_to f n) i d ≡ f i
  unfolding list_to
  at-list_to f zero i d l = absurd (omega arith)
  at-list_to f (suc n) i d l = by (ℕ_discrete i n) (λ m. at-list_to f n i d m)
    where
      by : Dec (i ≡ n) → (i < n → get_or (list_to f n) i d ≡ f i) → get_or (list_to f n ++ (f n ∷ [])) i d ≡ f i
      by (yes e) r = rw e (get_or_at (list_to f n) (f n) [] d n (length-list_to f n))
      by (no e) r = get_or-append (list_to f n) (f n ∷ []) d i (omega (arith, length-list_to f n)) ∙ r (omega arith)

  -- a list is known by its length and its places
  pub list-is : (f : ℕ → A) (n : ℕ) (d : A) (xs : List A) → length xs ≡ n → ((i : ℕ) → i < n → get_or xs i d ≡ f i) → list_to f n ≡ xs
  list-is f n d xs l h =
      ext_get_or d (list_to f n) xs (length-list_to f n ∙ sym l)
      (λ i m. let q : i < n = omega (arith, length-list_to f n) in at-list_to f n i d q ∙ sym (h i q))

  pub list_to-eq : (f g : ℕ → A) (n : ℕ) → ((i : ℕ) → i < n → f i ≡ g i) → list_to f n ≡ list_to g n
  unfolding list_to
  list_to-eq f g zero h = refl
  list_to-eq f g (suc n) h = let e = list_to-eq f g n (λ i l. h i (omega arith)) in let q = h n (omega arith) in rw (e, q)

  -- place i put as g has it
  put_as : (g : ℕ → A) (d : A) (xs : List A) (i j : ℕ) → i < length xs → ((j ≡ i → ⊥) → get_or xs j d ≡ g j) → get_or (set xs i (g i)) j d ≡ g j
  put_as g d xs i j l h = by (ℕ_discrete j i)
    where
      by : Dec (j ≡ i) → get_or (set xs i (g i)) j d ≡ g j
      by (yes e) = rw e (get_or-set_same xs i (g i) d l)
      by (no e) = get_or-set_other xs i j (g i) d e ∙ h e

  -- one place put anew, where f and g differ at that place alone
  pub list_to-set : (f g : ℕ → A) (n i : ℕ) → i < n → ((j : ℕ) → j < n → (j ≡ i → ⊥) → g j ≡ f j) → list_to g n ≡ set (list_to f n) i (g i)
  list_to-set f g n i l h =
      list-is g n (g i) (set (list_to f n) i (g i)) (length-set (list_to f n) i (g i) ∙ length-list_to f n)
      (λ j m. put_as g (g i) (list_to f n) i j (omega (arith, length-list_to f n)) (λ e. at-list_to f n j (g i) m ∙ sym (h j m e)))

  -- three places put, the last over the others: the list is g's where what is put is, and every other place was
  pub puts-three : (g : ℕ → A) (d : A) (n i k p : ℕ) (xs : List A) (a b c : A) → length xs ≡ n → i < n → k < n → p < n
      → ((i ≡ k → ⊥) → (i ≡ p → ⊥) → a ≡ g i) → ((k ≡ p → ⊥) → b ≡ g k) → c ≡ g p
      → ((j : ℕ) → j < n → (j ≡ i → ⊥) → (j ≡ k → ⊥) → (j ≡ p → ⊥) → get_or xs j d ≡ g j) → list_to g n ≡ set (set (set xs i a) k b) p c
  puts-three g d n i k p xs a b c size li lk lp ea eb ec h =
      list-is g n d (set two p c) (length-set two p c ∙ size-two) (λ j m. third j m (ℕ_discrete j p))
    where
      one : List A
      one = set xs i a

      two : List A
      two = set one k b

      size-one : length one ≡ n
      size-one = length-set xs i a ∙ size

      size-two : length two ≡ n
      size-two = length-set one k b ∙ size-one

      first : (j : ℕ) → j < n → (j ≡ k → ⊥) → (j ≡ p → ⊥) → Dec (j ≡ i) → get_or one j d ≡ g j
      first j m q r (yes e) = rw e (get_or-set_same xs i a d (omega arith) ∙ ea (λ x. q (e ∙ x)) (λ x. r (e ∙ x)))
      first j m q r (no e) = get_or-set_other xs i j a d e ∙ h j m e q r

      second : (j : ℕ) → j < n → (j ≡ p → ⊥) → Dec (j ≡ k) → get_or two j d ≡ g j
      second j m r (yes e) = rw e (get_or-set_same one k b d (omega (arith, size-one)) ∙ eb (λ x. r (e ∙ x)))
      second j m r (no e) = get_or-set_other one k j b d e ∙ first j m e r (ℕ_discrete j i)

      third : (j : ℕ) → j < n → Dec (j ≡ p) → get_or (set two p c) j d ≡ g j
      third j m (yes e) = rw e (get_or-set_same two p c d (omega (arith, size-two)) ∙ ec)
      third j m (no e) = get_or-set_other two p j c d e ∙ second j m e (ℕ_discrete j k)

  -- so where f and g differ at three places alone
  pub list_to-three : (f g : ℕ → A) (n i k p : ℕ) → i < n → k < n → p < n
      → ((j : ℕ) → j < n → (j ≡ i → ⊥) → (j ≡ k → ⊥) → (j ≡ p → ⊥) → g j ≡ f j) → list_to g n ≡ set (set (set (list_to f n) i (g i)) k (g k)) p (g p)
  list_to-three f g n i k p li lk lp h =
      puts-three g (g p) n i k p (list_to f n) (g i) (g k) (g p) (length-list_to f n) li lk lp (λ q r. refl) (λ q. refl) refl
      (λ j m q r e. at-list_to f n j (g p) m ∙ sym (h j m q r e))

  -- a list filled from the start on, one place more
  pub filled-step : (f : ℕ → A) (xs : List A) (d : A) (i : ℕ) (x : A) → i < length xs → ((j : ℕ) → j < i → get_or xs j d ≡ f j) → x ≡ f i
      → (j : ℕ) → j < i + 1 → get_or (set xs i x) j d ≡ f j
  filled-step f xs d i x l h e j m = by (ℕ_discrete j i)
    where
      by : Dec (j ≡ i) → get_or (set xs i x) j d ≡ f j
      by (yes q) = rw q (get_or-set_same xs i x d l ∙ e)
      by (no q) = get_or-set_other xs i j x d q ∙ h j (omega arith)

  -- every place of n times a is a, and so is the default
  pub get_d-same : (n i : ℕ) (a : A) → get_or (replicate n a) i a ≡ a
  get_d-same zero i a = refl
  get_d-same (suc n) zero a = refl
  get_d-same (suc n) (suc i) a = get_d-same n i a
