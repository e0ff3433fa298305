-- A table of numbers, each with its test; the number given is that of the first test that holds.
use Rattle.std.specs.Prelude.{Bool, true, false, List, [], ◌∷◌, ◌≡◌, ℕ}
use Rattle.sums.specs.Choice.{pick}

-- a line of a table
pub record Line : Type 0 where
  pub number : ℕ
  pub test : Bool

-- the number n, given when the test t holds
infix 20 ◌when◌
abbrev pub ◌when◌ : ℕ → Bool → Line
n when t = record { number = n; test = t }

-- the number of the first line whose test holds; 0 where none does
unfoldable pub first : List Line → ℕ
first [] = 0
first (l ∷ rest) = pick l.test l.number (first rest)

-- For the theorems that say "given exactly when": k's test holds, and no earlier one does
pub data Given (k : ℕ) : List Line → Type 0 where
  here : {t : Bool} {rest : List Line} → t ≡ true → Given k ((k when t) ∷ rest)
  later : {l : Line} {rest : List Line} → l.test ≡ false → Given k rest → Given k (l ∷ rest)

-- no line's test holds
abbrev pub NoneHolds : List Line → Type 0
NoneHolds [] = Unit
NoneHolds (l ∷ rest) = (l.test ≡ false) × NoneHolds rest
