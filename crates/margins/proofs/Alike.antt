-- A word's place in a list of words.
use mathlib.Core.Bool.{Bool, true, false}
use mathlib.Core.List.{List, [], ◌∷◌}
use mathlib.Core.Path.{◌≡◌, sym, ◌∙◌}
use Prim.Native.Nat.{ℕ, suc, ◌+◌}
use native.Mathlib.Omega.{arith}
use Rattle.sums.proofs.Choices.{pick_yes, pick_no}
use Rattle.streams.specs.Words.{same_bytes}
use Rattle.margins.specs.Words.{place_in}

-- one name of a list after the other; k of them were passed
module _ (names : List (List ℕ)) (k : ℕ) (word one : List ℕ) (rest : List (List ℕ)) (passed : place_in names word ≡ k + place_in (one ∷ rest) word) where
  pub this-name : {t : Bool} → t ≡ same_bytes word one → t ≡ true → k ≡ place_in names word
  unfolding place_in
  this-name e h = omega (arith, passed, pick_yes (same_bytes word one) 0 (suc (place_in rest word)) (sym e ∙ h))

  pub next-name : {t : Bool} → t ≡ same_bytes word one → t ≡ false → place_in names word ≡ suc k + place_in rest word
  unfolding place_in
  next-name e h = omega (arith, passed, pick_no (same_bytes word one) 0 (suc (place_in rest word)) (sym e ∙ h))

pub none_passed : (names : List (List ℕ)) (word : List ℕ) → place_in names word ≡ 0 + place_in names word
none_passed names word = omega arith

pub all-passed : (names : List (List ℕ)) (word : List ℕ) (k : ℕ) → place_in names word ≡ k + place_in [] word → k ≡ place_in names word
unfolding place_in
all-passed names word k e = omega arith
