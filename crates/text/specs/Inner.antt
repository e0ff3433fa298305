-- Only for internal functions: no promise of a public call cites it.
use Rattle.std.specs.Prelude.{List, [], ◌∷◌, ◌++◌, ◌≡◌, ℕ, ◌+◌, ◌/◌, ◌%◌, ◌≤◌, ◌<◌, length, take, get_or}
use Rattle.std.proofs.lemmas.List.Edits.{sets}
use Rattle.text.specs.Numbers.{digit, space, followed}

-- the room with a text put in from a place on
abbrev pub put : List ℕ → ℕ → List ℕ → List ℕ
put room at text = sets room at text

-- the room then holds the text, and what is given is the place after it, within the room
pub record Puts (room : List ℕ) (at : ℕ) (text room' : List ℕ) (after : ℕ) : Type 0 where
  pub holds : room' ≡ put room at text
  pub next : after ≡ at + length text
  pub within : after ≤ length room

-- the same, but up to two bytes behind the text are put over
pub record Spills (room : List ℕ) (at : ℕ) (text room' : List ℕ) (after : ℕ) : Type 0 where
  pub over : List ℕ
  pub few : length over ≤ 2
  pub puts : Puts room at (text ++ over) room' (after + length over)

-- the two digits of a number below 100, a `0` in front where it is below 10
abbrev pub pair : ℕ → List ℕ
pair n = digit (n / 10) ∷ digit (n % 10) ∷ []

-- the three digits of a number below 1,000, likewise
abbrev pub three : ℕ → List ℕ
three n = digit (n / 100) ∷ pair (n % 100)

-- the four lowest bytes of a word, the lowest first
abbrev pub four_of : ℕ → List ℕ
four_of x = x % 256 ∷ x / 256 % 256 ∷ x / 65536 % 256 ∷ x / 16777216 % 256 ∷ []

-- a number below 1,000 as a word of eight bytes: the number and a space from the lowest byte on; three digits, zeros in front, from the fifth on; in the
-- highest byte how long the number and the space are
pub record IsText (n x : ℕ) : Type 0 where
  pub begins : take (length (followed n space)) (four_of x) ≡ followed n space
  pub padded : take 3 (four_of (x / 4294967296)) ≡ three n
  pub size : x / 72057594037927936 ≡ length (followed n space)

-- the table of all of them
pub record Texts (t : List ℕ) : Type 0 where
  pub whole : length t ≡ 1000
  pub each : (n : ℕ) → n < 1000 → IsText n (get_or t n 0)
