-- A program's words. Word 0 is its own name. How many there are, and which bytes they have, no contract can say.
use Rattle.std.specs.Prelude.{Bool, true, false, ◌&&◌, List, [], ◌∷◌, ◌≡◌, ℕ, ◌+◌, ◌≤◌, eqb, ltb, Option, is_some, IfSome}
use Rattle.streams.specs.declared.Moved.{Moved}

-- of count words there is one at this place
abbrev pub is_there : ℕ → ℕ → Bool
is_there count word = ltb word count

-- behind the program's own name there are more words than it takes
abbrev pub too_many : ℕ → ℕ → Bool
too_many count most = ltb (most + 1) count

-- byte by byte the same
unfoldable pub same_bytes : List ℕ → List ℕ → Bool
same_bytes [] [] = true
same_bytes [] (y ∷ m) = false
same_bytes (x ∷ l) [] = false
same_bytes (x ∷ l) (y ∷ m) = eqb x y && same_bytes l m

-- `--help`
abbrev pub help_word : List ℕ
help_word = 45 ∷ 45 ∷ 104 ∷ 101 ∷ 108 ∷ 112 ∷ []

-- There is a count of words by which they are too many, or aren't. That is all that can be said: any answer meets it.
pub record Counted (most : ℕ) (many : Bool) : Type 0 where
  pub count : ℕ
  pub is : many ≡ too_many count most

-- there is a first word by which help was asked for, or wasn't; unless it was, nothing of its n bytes is told, and where it was it failed exactly when not all of them were
pub record HelpAsked (n : ℕ) (h : Option Moved) : Type 0 where
  pub word : List ℕ
  pub asked : is_some h ≡ same_bytes word help_word
  pub told : IfSome h (λ m. (m.count ≤ n) × (m.failed ≡ ltb m.count n))
