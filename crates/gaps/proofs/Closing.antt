-- A list that is closed up in place: what is kept goes to the first free place, and what it leaves is blank.
use mathlib.Core.Bool.{Bool, true, false}
use mathlib.Core.List.{List, [], ◌∷◌, ◌++◌, append_assoc, append-nil}
use mathlib.Core.Path.{◌≡◌, refl, sym, ap, ◌∙◌}
use Prim.Native.Nat.{ℕ, zero, suc, ◌+◌, ◌-◌, ◌≤◌, ◌<◌}
use native.Mathlib.Omega.{arith}
use native.Mathlib.Decide.{ℕ_discrete, dec_lt}
use lib.ListN.{length, get_or, set, replicate, drop, length-append, length-replicate, length-drop, get_or-append}
use lib.Seq.{ext_get_or, get_or_at, get_or-drop, get_or-append-add, set_at, drop-cons}
use Rattle.sums.proofs.Choices.{pick_yes, pick_no, test-clash}
use Rattle.sums.proofs.Lists.{get_d-same}
use Rattle.gaps.specs.Gaps.{place_after, kept_to}
use Rattle.gaps.specs.Inner.{closed_to, slid}
use Rattle.gaps.proofs.Places.{place_none, place-on, place-off, place-lt, place-most}

module _ {A : Type 0} (keep : ℕ → Bool) (f : ℕ → List A) where
  pub kept-none : kept_to keep f 0 ≡ []
  unfolding kept_to
  kept-none = refl

  pub kept_on : (n : ℕ) → keep n ≡ true → kept_to keep f (suc n) ≡ kept_to keep f n ++ f n
  unfolding kept_to
  kept_on n e = ap (λ x. kept_to keep f n ++ x) (pick_yes (keep n) (f n) [] e)

  pub kept_off : (n : ℕ) → keep n ≡ false → kept_to keep f (suc n) ≡ kept_to keep f n
  unfolding kept_to
  kept_off n e = ap (λ x. kept_to keep f n ++ x) (pick_no (keep n) (f n) [] e) ∙ append-nil (kept_to keep f n)

-- a list that is blank from n on, with all from a on made blank
blank-rest : {A : Type 0} (d : A) (l : List A) (n a : ℕ) → length l ≡ 256 → n ≤ 256 → a ≤ n → ((j : ℕ) → n ≤ j → get_or l j d ≡ d)
    → replicate (n - a) d ++ drop n l ≡ replicate (256 - a) d
blank-rest d l n a s m p h =
    ext_get_or d _ _ (length-append (replicate (n - a) d) (drop n l) ∙ omega (arith, length-replicate (n - a) d, length-drop n l, length-replicate (256 - a) d))
    (λ i q. by i (dec_lt i (n - a)) ∙ sym (get_d-same (256 - a) i d))
  where
    by : (i : ℕ) → Dec (i < n - a) → get_or (replicate (n - a) d ++ drop n l) i d ≡ d
    by i (yes z) = get_or-append (replicate (n - a) d) (drop n l) d i (omega (arith, length-replicate (n - a) d)) ∙ get_d-same (n - a) i d
    by i (no z) =
        let e : i ≡ length (replicate (n - a) d) + (i - (n - a)) = omega (arith, length-replicate (n - a) d) in
        ap (λ x. get_or (replicate (n - a) d ++ drop n l) x d) e ∙ get_or-append-add (replicate (n - a) d) (drop n l) (i - (n - a)) d
        ∙ get_or-drop n l (i - (n - a)) d ∙ h (n + (i - (n - a))) (omega arith)

module _ {A : Type 0} (keep : ℕ → Bool) (f : ℕ → A) where
  abbrev one : ℕ → List A
  one j = f j ∷ []

  pub kept-length : (n : ℕ) → length (kept_to keep one n) ≡ place_after keep n
  kept-length zero = ap length (kept-none keep one) ∙ sym (place_none keep)
  kept-length (suc n) = by (keep n) refl (kept-length n)
    where
      by : (t : Bool) → keep n ≡ t → length (kept_to keep one n) ≡ place_after keep n → length (kept_to keep one (suc n)) ≡ place_after keep (suc n)
      by true e r = ap length (kept_on keep one n e) ∙ length-append (kept_to keep one n) (f n ∷ []) ∙ omega (arith, r, place-on keep n e)
      by false e r = ap length (kept_off keep one n e) ∙ r ∙ sym (place-off keep n e)

  -- a kept row stands at its place
  pub kept_at : (n : ℕ) (d : A) (i : ℕ) → i < n → keep i ≡ true → get_or (kept_to keep one n) (place_after keep i) d ≡ f i
  kept_at zero d i l k = absurd (omega arith)
  kept_at (suc n) d i l k = by (keep n) refl (ℕ_discrete i n) (λ m. kept_at n d i m k)
    where
      by : (t : Bool) → keep n ≡ t → Dec (i ≡ n) → (i < n → get_or (kept_to keep one n) (place_after keep i) d ≡ f i)
          → get_or (kept_to keep one (suc n)) (place_after keep i) d ≡ f i
      by true e (yes q) r =
          rw (kept_on keep one n e) (rw q (get_or_at (kept_to keep one n) (f n) [] d (place_after keep n) (kept-length n)))
      by true e (no q) r =
          rw (kept_on keep one n e)
          (get_or-append (kept_to keep one n) (f n ∷ []) d (place_after keep i) (omega (arith, kept-length n, place-lt keep i n k (omega arith))) ∙ r (omega arith))
      by false e (yes q) r = test-clash k (ap keep q ∙ e)
      by false e (no q) r = rw (kept_off keep one n e) (r (omega arith))

  module _ (d : A) (l : List A) where
    abbrev now : ℕ → List A
    now = closed_to keep f d l

    -- what is passed
    abbrev done : ℕ → List A
    done i = kept_to keep one i ++ replicate (i - place_after keep i) d

    done-length : (i : ℕ) → length (done i) ≡ i
    done-length i = length-append (kept_to keep one i) _ ∙ omega (arith, kept-length i, length-replicate (i - place_after keep i) d, place-most keep i)

    pub closed-start : now 0 ≡ l
    closed-start = rw (kept-none keep one, place_none keep)

    as_passed : (i : ℕ) → i < length l → now i ≡ done i ++ (get_or l i d ∷ drop (suc i) l)
    as_passed i m =
        ap (λ x. kept_to keep one i ++ (replicate (i - place_after keep i) d ++ x)) (drop-cons l i d m)
        ∙ sym (append_assoc (kept_to keep one i) (replicate (i - place_after keep i) d) _)

    -- what comes next is as it was
    pub closed-next : {cur : List A} (i : ℕ) → i < length l → cur ≡ now i → get_or cur i d ≡ get_or l i d
    closed-next i m c = rw (c, as_passed i m) (get_or_at (done i) (get_or l i d) (drop (suc i) l) d i (done-length i))

    blank-more : (n : ℕ) (xs : List A) → replicate n d ++ (d ∷ xs) ≡ replicate (suc n) d ++ xs
    blank-more zero xs = refl
    blank-more (suc n) xs = ap (λ x. d ∷ x) (blank-more n xs)

    taken : (i : ℕ) → i < length l → set (now i) i d ≡ kept_to keep one i ++ (replicate (suc (i - place_after keep i)) d ++ drop (suc i) l)
    taken i m =
        ap (λ x. set x i d) (as_passed i m) ∙ set_at (done i) (get_or l i d) (drop (suc i) l) d i (done-length i)
        ∙ append_assoc (kept_to keep one i) (replicate (i - place_after keep i) d) _
        ∙ ap (λ x. kept_to keep one i ++ x) (blank-more (i - place_after keep i) (drop (suc i) l))

    -- what isn't kept leaves a blank
    closed-off : (i : ℕ) → i < length l → keep i ≡ false → set (now i) i d ≡ now (suc i)
    closed-off i m e =
        let n : suc (i - place_after keep i) ≡ suc i - place_after keep (suc i) = omega (arith, place-off keep i e, place-most keep i) in
        taken i m ∙ ap (λ x. kept_to keep one i ++ (replicate x d ++ drop (suc i) l)) n
        ∙ ap (λ x. x ++ (replicate (suc i - place_after keep (suc i)) d ++ drop (suc i) l)) (sym (kept_off keep one i e))

    -- what is kept goes to the first free place
    closed_on : (i : ℕ) → i < length l → keep i ≡ true → set (set (now i) i d) (place_after keep i) (f i) ≡ now (suc i)
    closed_on i m e =
        let n : i - place_after keep i ≡ suc i - place_after keep (suc i) = omega (arith, place-on keep i e, place-most keep i) in
        ap (λ x. set x (place_after keep i) (f i)) (taken i m)
        ∙ set_at (kept_to keep one i) d (replicate (i - place_after keep i) d ++ drop (suc i) l) (f i) (place_after keep i) (kept-length i)
        ∙ sym (append_assoc (kept_to keep one i) (f i ∷ []) _)
        ∙ ap (λ x. x ++ (replicate (i - place_after keep i) d ++ drop (suc i) l)) (sym (kept_on keep one i e))
        ∙ ap (λ x. kept_to keep one (suc i) ++ (replicate x d ++ drop (suc i) l)) n

    -- THE LAW: what comes next slides to its place
    pub closed-step : (i : ℕ) → i < length l → {cur : List A} {t : Bool} {k : ℕ} {x : A} → cur ≡ now i → t ≡ keep i → k ≡ place_after keep i → x ≡ f i
        → slid t cur k i x d ≡ now (suc i)
    closed-step i m c e q g = rw (c, e, q, g) (by (keep i) refl)
      where
        by : (t : Bool) → keep i ≡ t → slid (keep i) (now i) (place_after keep i) i (f i) d ≡ now (suc i)
        by true e = pick_yes (keep i) _ _ e ∙ closed_on i m e
        by false e = pick_no (keep i) _ _ e ∙ closed-off i m e

    -- all is passed, and the rest was blank
    pub closed-end : (n : ℕ) → length l ≡ 256 → n ≤ 256 → ((j : ℕ) → n ≤ j → get_or l j d ≡ d) → now n ≡ kept_to keep one n ++ replicate (256 - place_after keep n) d
    closed-end n s m h = ap (λ x. kept_to keep one n ++ x) (blank-rest d l n (place_after keep n) s m (place-most keep n) h)
