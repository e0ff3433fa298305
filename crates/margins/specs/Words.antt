-- The text form of `margins` (docs/API.md): a text's parts, and a word's place in a list of words.
use Rattle.std.specs.Prelude.{List, [], ◌∷◌, ℕ, suc, eqb}
use Rattle.sums.specs.Choice.{pick}
use Rattle.text.specs.Numbers.{space, newline}
use Rattle.streams.specs.Words.{same_bytes}

-- a word's place in a list of words; how many there are where it is none of them
unfoldable pub place_in : List (List ℕ) → List ℕ → ℕ
place_in [] word = 0
place_in (one ∷ rest) word = pick (same_bytes word one) 0 (suc (place_in rest word))

-- a byte in front of the first part
abbrev pub in_first : ℕ → List (List ℕ) → List (List ℕ)
in_first b [] = (b ∷ []) ∷ []
in_first b (part ∷ parts) = (b ∷ part) ∷ parts

-- what stands in front of, between and behind the marks of a text: one part more than marks
unfoldable pub parted_by : ℕ → List ℕ → List (List ℕ)
parted_by mark [] = [] ∷ []
parted_by mark (b ∷ rest) = pick (eqb b mark) ([] ∷ parted_by mark rest) (in_first b (parted_by mark rest))

-- a line's words, "with single spaces": where two spaces stand together, the word between them is empty
abbrev pub words_of : List ℕ → List (List ℕ)
words_of line = parted_by space line

-- a text's lines; behind a newline at its end an empty one is left
abbrev pub lines_in : List ℕ → List (List ℕ)
lines_in text = parted_by newline text
