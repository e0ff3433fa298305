-- Numbers as bytes: their decimal digits, and what stands behind each and between them.
use Rattle.std.specs.Prelude.{List, [], ◌∷◌, ◌++◌, ℕ, zero, suc, ◌+◌, ◌*◌, ◌/◌, ◌%◌, ltb, get_or}
use Rattle.sums.specs.Choice.{pick}

-- the bytes of a digit (48 is `0`), of a space and of a line's end
abbrev pub digit : ℕ → ℕ
digit d = 48 + d

abbrev pub space : ℕ
space = 32

abbrev pub newline : ℕ
newline = 10

-- a number's decimal digits, the highest first: a number below 10 is its one digit, any other has the digits of its tenth and then
-- its last one. So no 0 stands in front, and 0 is `0`. `most` is how many digits there may be.
unfoldable pub digits : ℕ → ℕ → List ℕ
digits zero n = []
digits (suc most) n = pick (ltb n 10) (digit n ∷ []) (digits most (n / 10) ++ (digit (n % 10) ∷ []))

-- a number in decimal
unfoldable pub decimal : ℕ → List ℕ
decimal n = digits (suc n) n

-- a number and the byte after it
abbrev pub followed : ℕ → ℕ → List ℕ
followed n mark = decimal n ++ (mark ∷ [])

-- "single spaces between", and a newline at the end
unfoldable pub spaced : List ℕ → List ℕ
spaced [] = newline ∷ []
spaced (n ∷ []) = followed n newline
spaced (n ∷ m ∷ rest) = followed n space ++ spaced (m ∷ rest)

-- numbers, the space behind each
unfoldable pub and_spaces : List ℕ → List ℕ
and_spaces [] = []
and_spaces (n ∷ rest) = followed n space ++ and_spaces rest

-- the line of the five numbers that stand from number 5 i on
abbrev pub line_at : List ℕ → ℕ → List ℕ
line_at numbers i =
    spaced (get_or numbers (5 * i) 0 ∷ get_or numbers (5 * i + 1) 0 ∷ get_or numbers (5 * i + 2) 0 ∷ get_or numbers (5 * i + 3) 0 ∷ get_or numbers (5 * i + 4) 0 ∷ [])

-- the lines of the first count records
unfoldable pub lines_to : List ℕ → ℕ → List ℕ
lines_to numbers zero = []
lines_to numbers (suc count) = lines_to numbers count ++ line_at numbers count
