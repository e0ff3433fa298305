-- How long a number is with the byte after it: at least 2 bytes; 4 hold any below 1,000, 6 any of 16 bits, and 21 any of 64; 32 any line of five of 16 bits.
use mathlib.Core.List.{List, [], ◌∷◌, ◌++◌}
use mathlib.Core.Path.{◌≡◌}
use Prim.Native.Nat.{ℕ, suc, ◌+◌, ◌^◌, ◌≤◌, ◌<◌}
use native.Mathlib.Omega.{arith}
use lib.ListN.{length, length-append}
use Rattle.text.specs.Numbers.{space, newline, decimal, followed, spaced}
use Rattle.text.proofs.Digits.{length_some, length_most}

followed-length : (n mark : ℕ) → length (followed n mark) ≡ length (decimal n) + 1
followed-length n mark = length-append (decimal n) (mark ∷ [])

pub some_number : (n mark : ℕ) → 2 ≤ length (followed n mark)
some_number n mark = omega (arith, followed-length n mark, length_some n)

pub some_more : (n mark : ℕ) (text : List ℕ) → 2 ≤ length (followed n mark ++ text)
some_more n mark text = omega (arith, some_number n mark, length-append (followed n mark) text)

pub small-number : (k n mark : ℕ) → n < 10 ^ suc k → length (followed n mark) ≤ k + 2
small-number k n mark h = omega (arith, followed-length n mark, length_most k n h)

pub short-number : (n mark : ℕ) → n < 65536 → length (followed n mark) ≤ 6
short-number n mark h = omega (arith, followed-length n mark, length_most 4 n (omega arith))

pub long-number : (n mark : ℕ) → n < 2 ^ 64 → length (followed n mark) ≤ 21
long-number n mark h = omega (arith, followed-length n mark, length_most 19 n (omega arith))

pub line-most : (a b c d e : ℕ) → a < 65536 → b < 65536 → c < 65536 → d < 65536 → e < 65536 → length (spaced (a ∷ b ∷ c ∷ d ∷ e ∷ [])) ≤ 32
unfolding spaced
line-most a b c d e ha hb hc hd he =
    let A = followed a space in
    let B = followed b space in
    let C = followed c space in
    let D = followed d space in
    let E = followed e newline in
    omega (
      arith,
      length-append A (B ++ (C ++ (D ++ E))),
      length-append B (C ++ (D ++ E)),
      length-append C (D ++ E),
      length-append D E,
      short-number a space ha,
      short-number b space hb,
      short-number c space hc,
      short-number d space hd,
      short-number e newline he,
    )
