-- A number's digits: the last one, the last two, and how many there are.
use mathlib.Core.Bool.{Bool, true, false}
use mathlib.Core.List.{List, [], ◌∷◌, ◌++◌, append_assoc}
use mathlib.Core.Path.{◌≡◌, refl, sym, ap, ◌∙◌}
use Prim.Native.Nat.{ℕ, zero, suc, ◌+◌, ◌/◌, ◌%◌, ◌^◌, ◌≤◌, ◌<◌}
use native.Mathlib.Nat.{pow-suc}
use native.Mathlib.Omega.{arith}
use lib.Dec.{ltb}
use lib.ListN.{length, length-append}
use borrow.Author.Tests.{lt-ltb, le-ltb, ltb-true, ltb-false}
use Rattle.sums.proofs.Choices.{pick_yes, pick_no}
use Rattle.text.specs.Numbers.{digit, digits, decimal}
use Rattle.text.specs.Inner.{pair, three}

digits-one : (most n : ℕ) → n < 10 → digits (suc most) n ≡ digit n ∷ []
unfolding digits
digits-one most n h = pick_yes (ltb n 10) _ _ (lt-ltb n 10 h)

digits_more : (most n : ℕ) → 10 ≤ n → digits (suc most) n ≡ digits most (n / 10) ++ (digit (n % 10) ∷ [])
unfolding digits
digits_more most n h = pick_no (ltb n 10) _ _ (le-ltb n 10 h)

-- more digits than there are change nothing
digits-enough : (j k n : ℕ) → n < j → n < k → digits j n ≡ digits k n
digits-enough zero k n p q = absurd (omega arith)
digits-enough (suc j) zero n p q = absurd (omega arith)
digits-enough (suc j) (suc k) n p q = by (ltb n 10) refl (λ r. digits-enough j k (n / 10) (omega arith) (omega arith))
  where
    by : (t : Bool) → ltb n 10 ≡ t → (10 ≤ n → digits j (n / 10) ≡ digits k (n / 10)) → digits (suc j) n ≡ digits (suc k) n
    by true e go = let h = ltb-true n 10 e in digits-one j n h ∙ sym (digits-one k n h)
    by false e go =
        let h = ltb-false n 10 e in
        digits_more j n h ∙ ap (λ (d : List ℕ). d ++ (digit (n % 10) ∷ [])) (go h) ∙ sym (digits_more k n h)

pub decimal-one : (n : ℕ) → n < 10 → decimal n ≡ digit n ∷ []
unfolding decimal
decimal-one n h = digits-one n n h

pub decimal-more : (n : ℕ) → 10 ≤ n → decimal n ≡ decimal (n / 10) ++ (digit (n % 10) ∷ [])
unfolding decimal
decimal-more n h =
    digits_more n n h
    ∙ ap (λ (d : List ℕ). d ++ (digit (n % 10) ∷ [])) (digits-enough n (suc (n / 10)) (n / 10) (omega arith) (omega arith))

-- two digits
pub decimal-two : (n : ℕ) → 10 ≤ n → n < 100 → decimal n ≡ pair n
decimal-two n h m =
    decimal-more n h ∙ ap (λ (d : List ℕ). d ++ (digit (n % 10) ∷ [])) (decimal-one (n / 10) (omega arith))

-- from 100 on: the digits of the hundredth, then two more
pub decimal-hundred : (n : ℕ) → 100 ≤ n → decimal n ≡ decimal (n / 100) ++ pair (n % 100)
decimal-hundred n h =
    let tenth = decimal-more (n / 10) (omega arith) in
    let first : n / 10 / 10 ≡ n / 100 = omega arith in
    let second : n / 10 % 10 ≡ n % 100 / 10 = omega arith in
    let third : n % 10 ≡ n % 100 % 10 = omega arith in
    decimal-more n (omega arith) ∙ ap (λ (d : List ℕ). d ++ (digit (n % 10) ∷ [])) tenth
    ∙ append_assoc (decimal (n / 10 / 10)) (digit (n / 10 % 10) ∷ []) (digit (n % 10) ∷ []) ∙ rw (first, second, third)

-- three digits
pub decimal-three : (n : ℕ) → 100 ≤ n → n < 1000 → decimal n ≡ three n
decimal-three n h m = decimal-hundred n h ∙ ap (λ (d : List ℕ). d ++ pair (n % 100)) (decimal-one (n / 100) (omega arith))

-- from 1,000 on: the digits of the thousandth, then three more
pub decimal-thousand : (n : ℕ) → 1000 ≤ n → decimal n ≡ decimal (n / 1000) ++ three (n % 1000)
decimal-thousand n h =
    let first : n / 100 / 10 ≡ n / 1000 = omega arith in
    let second : n / 100 % 10 ≡ n % 1000 / 100 = omega arith in
    let third : n % 100 ≡ n % 1000 % 100 = omega arith in
    decimal-hundred n (omega arith) ∙ ap (λ (d : List ℕ). d ++ pair (n % 100)) (decimal-more (n / 100) (omega arith))
    ∙ append_assoc (decimal (n / 100 / 10)) (digit (n / 100 % 10) ∷ []) (pair (n % 100)) ∙ rw (first, second, third)

pub length_more : (n : ℕ) → 10 ≤ n → length (decimal n) ≡ length (decimal (n / 10)) + 1
length_more n h = ap length (decimal-more n h) ∙ length-append (decimal (n / 10)) (digit (n % 10) ∷ [])

pub length-one : (n : ℕ) → n < 10 → length (decimal n) ≡ 1
length-one n h = ap length (decimal-one n h)

-- there is a digit
pub length_some : (n : ℕ) → 1 ≤ length (decimal n)
length_some n = by (ltb n 10) refl
  where
    by : (t : Bool) → ltb n 10 ≡ t → 1 ≤ length (decimal n)
    by true e = omega (arith, length-one n (ltb-true n 10 e))
    by false e = omega (arith, length_more n (ltb-false n 10 e))

-- a number below 10 ^ k has at most k digits
pub length_most : (k n : ℕ) → n < 10 ^ suc k → length (decimal n) ≤ suc k
length_most zero n h = omega (arith, length-one n (omega arith))
length_most (suc k) n h = by (ltb n 10) refl (length_most k (n / 10) (omega (arith, pow-suc 10 (suc k))))
  where
    by : (t : Bool) → ltb n 10 ≡ t → length (decimal (n / 10)) ≤ suc k → length (decimal n) ≤ suc (suc k)
    by true e g = omega (arith, length-one n (ltb-true n 10 e))
    by false e g = omega (arith, length_more n (ltb-false n 10 e))
