-- The digits are the number's: read as decimal they give it back, and no 0 stands in front.
use mathlib.Core.Bool.{Bool, true, false}
use mathlib.Core.List.{List, [], ◌∷◌, ◌++◌}
use mathlib.Core.Path.{◌≡◌, refl, sym, ap, ◌∙◌}
use Prim.Native.Nat.{ℕ, zero, suc, ◌+◌, ◌-◌, ◌*◌, ◌/◌, ◌%◌, ◌≤◌, ◌<◌}
use native.Mathlib.Omega.{arith}
use lib.Dec.{ltb}
use lib.ListN.{get_or, get_or-append}
use borrow.Author.Tests.{ltb-true, ltb-false}
use Rattle.text.specs.Numbers.{digit, decimal}
use Rattle.text.proofs.Digits.{decimal-one, decimal-more, length_some}

-- what digits say after a number that stands before them
abbrev pub value_after : ℕ → List ℕ → ℕ
value_after n [] = n
value_after n (d ∷ rest) = value_after (10 * n + (d - 48)) rest

value-append : (n : ℕ) (x y : List ℕ) → value_after n (x ++ y) ≡ value_after (value_after n x) y
value-append n [] y = refl
value-append n (d ∷ x) y = value-append (10 * n + (d - 48)) x y

value-below : (k n : ℕ) → n < k → value_after 0 (decimal n) ≡ n
value-below zero n h = absurd (omega arith)
value-below (suc k) n h = by (ltb n 10) refl (λ m. value-below k (n / 10) (omega arith))
  where
    by : (t : Bool) → ltb n 10 ≡ t → (10 ≤ n → value_after 0 (decimal (n / 10)) ≡ n / 10) → value_after 0 (decimal n) ≡ n
    by true e go = ap (value_after 0) (decimal-one n (ltb-true n 10 e)) ∙ omega arith
    by false e go =
        let m = ltb-false n 10 e in
        ap (value_after 0) (decimal-more n m) ∙ value-append 0 (decimal (n / 10)) (digit (n % 10) ∷ []) ∙ omega (arith, go m)

pub value-decimal : (n : ℕ) → value_after 0 (decimal n) ≡ n
value-decimal n = value-below (suc n) n (omega arith)

-- two numbers with the same digits are one
pub decimal-once : (m n : ℕ) → decimal m ≡ decimal n → m ≡ n
decimal-once m n e = sym (value-decimal m) ∙ ap (value_after 0) e ∙ value-decimal n

first_below : (k n : ℕ) → n < k → get_or (decimal n) 0 0 ≡ digit 0 → n ≡ 0
first_below zero n h z = absurd (omega arith)
first_below (suc k) n h z = by (ltb n 10) refl (λ m. first_below k (n / 10) (omega arith))
  where
    by : (t : Bool) → ltb n 10 ≡ t → (10 ≤ n → get_or (decimal (n / 10)) 0 0 ≡ digit 0 → n / 10 ≡ 0) → n ≡ 0
    by true e go = omega (arith, sym (ap (λ d. get_or d 0 0) (decimal-one n (ltb-true n 10 e))) ∙ z)
    by false e go =
        let m = ltb-false n 10 e in
        let front = decimal (n / 10) in
        let f : get_or (decimal n) 0 0 ≡ get_or front 0 0 =
        ap (λ d. get_or d 0 0) (decimal-more n m) ∙ get_or-append front (digit (n % 10) ∷ []) 0 0 (length_some (n / 10)) in
        omega (arith, go m (sym f ∙ z))

-- only 0 begins with `0`
pub first-digit : (n : ℕ) → get_or (decimal n) 0 0 ≡ digit 0 → n ≡ 0
first-digit n = first_below (suc n) n (omega arith)
