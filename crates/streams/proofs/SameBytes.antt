-- Laws of a program's words: two are byte by byte the same exactly when they are equal, also where their bytes are tested one by one; the test for too many.
use Rattle.std.proofs.Common.{◌≡◌, ℕ, ◌+◌, ◌-◌, Bool, true, false, List, [], ◌∷◌, ◌&&◌, eqb, ltb, refl, sym, ap, ◌∙◌, arith}
use mathlib.Core.Bool.{false≢true}
use borrow.Author.Tests.{eqb-true, eq-eqb, ltb-true, ltb-false, lt-ltb, le-ltb}
use lib.Pointwise.{pointwise}
use Rattle.sums.proofs.Choices.{and_left, and_right, and-join}
use Rattle.streams.specs.Words.{same_bytes}

pub one_by_one : (l m : List ℕ) → pointwise eqb l m ≡ same_bytes l m
unfolding same_bytes
one_by_one [] [] = refl
one_by_one [] (y ∷ m) = refl
one_by_one (x ∷ l) [] = refl
one_by_one (x ∷ l) (y ∷ m) = ap (λ t. eqb x y && t) (one_by_one l m)

same_bytes_lem : (l m : List ℕ) → same_bytes l m ≡ true → l ≡ m
unfolding same_bytes
same_bytes_lem [] [] e = refl
same_bytes_lem [] (y ∷ m) e = absurd (false≢true e)
same_bytes_lem (x ∷ l) [] e = absurd (false≢true e)
same_bytes_lem (x ∷ l) (y ∷ m) e =
    ap (λ k. k ∷ l) (eqb-true x y (and_left (eqb x y) (same_bytes l m) e)) ∙ ap (λ r. y ∷ r) (same_bytes_lem l m (and_right (eqb x y) (same_bytes l m) e))

same_self : (l : List ℕ) → same_bytes l l ≡ true
unfolding same_bytes
same_self [] = refl
same_self (x ∷ l) = and-join (eq-eqb x x refl) (same_self l)

pub by_bytes : (t : Bool) (l m : List ℕ) → (t ≡ true → l ≡ m) × (l ≡ m → t ≡ true) → t ≡ same_bytes l m
by_bytes true l m h = sym (same_self l) ∙ ap (same_bytes l) (h.0 refl)
by_bytes false l m h = by (same_bytes l m) refl
  where
    by : (s : Bool) → same_bytes l m ≡ s → false ≡ s
    by true e = h.1 (same_bytes_lem l m e)
    by false e = refl

-- without a sum that could pass a word's end
pub two-more : (count most : ℕ) → ltb 1 (count - most) ≡ ltb (most + 1) count
two-more count most = by (ltb (most + 1) count) refl
  where
    by : (t : Bool) → ltb (most + 1) count ≡ t → ltb 1 (count - most) ≡ t
    by true e = lt-ltb 1 (count - most) (omega (arith, ltb-true (most + 1) count e))
    by false e = le-ltb 1 (count - most) (omega (arith, ltb-false (most + 1) count e))
