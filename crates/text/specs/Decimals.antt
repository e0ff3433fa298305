-- A number in decimal digits, as a word says it (docs/API.md: `margins`, `statements`).
use Rattle.std.specs.Prelude.{◌&&◌, List, [], ◌∷◌, ℕ, ◌+◌, ◌-◌, ◌*◌, eqb, leb, Option, None, Some}
use Rattle.sums.specs.Choice.{pick}

-- the largest number of eight bytes
abbrev pub largest : ℕ
largest = 18446744073709551615

-- the digit that a byte is, 48 for 0 to 57 for 9; 10 for any other
abbrev pub digit_in : ℕ → ℕ
digit_in b = pick (leb 48 b && leb b 57) (b - 48) 10

-- a digit behind a number; "a number too large for eight bytes counts as the largest of eight bytes"
abbrev pub with_digit : ℕ → ℕ → ℕ
with_digit n d = pick (leb (10 * n + d) largest) (10 * n + d) largest

-- what digits say behind those that say n
unfoldable pub said : ℕ → List ℕ → Option ℕ
said n [] = Some n
said n (b ∷ rest) = pick (eqb (digit_in b) 10) None (said (with_digit n (digit_in b)) rest)

-- the number that a word is; no digits are none
unfoldable pub decimal_of : List ℕ → Option ℕ
decimal_of [] = None
decimal_of (b ∷ rest) = said 0 (b ∷ rest)
