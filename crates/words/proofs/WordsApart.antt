-- A word is told by its number: no two have the same.
use Rattle.std.proofs.Common.{◌≡◌, ℕ, zero, suc, ◌+◌, ◌-◌, ◌*◌, ◌<◌, ◌≤◌, List, [], ◌∷◌, ◌++◌, length, take, drop, sym, refl, ap, ◌∙◌, arith, length-drop, take-append-drop, length-take-le}
use native.Mathlib.Decide.{dec_le}
use Rattle.words.specs.Tokens.{value_in, number_of_word}
use Rattle.words.proofs.Tokens.{AllIn, nothing, also, range-least}
use Rattle.words.proofs.Steps.{range-most}

-- letters as many as letters
as_many : {x y : List ℕ} (n m : ℕ) → AllIn 26 97 x → AllIn 26 97 y → length x ≡ length y → value_in 26 97 n x ≡ value_in 26 97 m y → (n ≡ m) × (x ≡ y)
unfolding value_in
as_many n m nothing nothing h e = (e, refl)
as_many n m nothing (also q p) h e = absurd (omega arith)
as_many n m (also q p) nothing h e = absurd (omega arith)
as_many n m (also {b} {x} q p) (also {b = c} {x = y} r s) h e =
    let k = as_many (26 * n + (b - 97)) (26 * m + (c - 97)) p s (omega arith) e in
    let b0 = range-least b 97 26 q in
    let b1 = range-most b 97 26 q in
    let c0 = range-least c 97 26 r in
    let c1 = range-most c 97 26 r in
    let f = k.0 in
    let same : b ≡ c = omega arith in
    (omega arith, rw (same, k.1))

value-append : (n : ℕ) (x y : List ℕ) → value_in 26 97 n (x ++ y) ≡ value_in 26 97 (value_in 26 97 n x) y
unfolding value_in
value-append n [] y = refl
value-append n (b ∷ x) y = value-append (26 * n + (b - 97)) x y

at_least : (n : ℕ) (x : List ℕ) → n ≤ value_in 26 97 n x
unfolding value_in
at_least n [] = omega arith
at_least n (b ∷ x) = omega (arith, at_least (26 * n + (b - 97)) x)

some-letters : (x : List ℕ) → 1 ≤ length x → 26 ≤ value_in 26 97 1 x
unfolding value_in
some-letters [] h = absurd (omega arith)
some-letters (b ∷ x) h = omega (arith, at_least (26 * 1 + (b - 97)) x)

all_drop : {x : List ℕ} (k : ℕ) → AllIn 26 97 x → AllIn 26 97 (drop k x)
all_drop zero p = p
all_drop (suc k) nothing = nothing
all_drop (suc k) (also q p) = all_drop k p

-- no word has the number of a longer one
no_longer : {x y : List ℕ} → AllIn 26 97 x → AllIn 26 97 y → length x < length y → number_of_word x ≡ number_of_word y → ⊥
no_longer {x} {y} p q h e =
    let k = length y - length x in
    let f = length-drop k y in
    let v : number_of_word y ≡ value_in 26 97 (number_of_word (take k y)) (drop k y) = ap number_of_word (sym (take-append-drop k y)) ∙ value-append 1 (take k y) (drop k y) in
    let s = as_many 1 (number_of_word (take k y)) p (all_drop k q) (omega arith) (e ∙ v) in
    omega (arith, s.0, some-letters (take k y) (omega (arith, length-take-le k y (omega arith))))

pub words-apart : (x y : List ℕ) → AllIn 26 97 x → AllIn 26 97 y → number_of_word x ≡ number_of_word y → x ≡ y
words-apart x y p q e = by (dec_le (length x) (length y)) (dec_le (length y) (length x))
  where
    by : Dec (length x ≤ length y) → Dec (length y ≤ length x) → x ≡ y
    by (yes h) (yes k) = (as_many 1 1 p q (omega arith) e).1
    by (no h) k = absurd (no_longer q p (omega arith) (sym e))
    by (yes h) (no k) = absurd (no_longer p q (omega arith) e)
