-- Where lines begin, and which lines a file has.
use mathlib.Core.Bool.{Bool, true, false, ◌&&◌, ◌||◌}
use mathlib.Core.List.{List, [], ◌∷◌, ◌++◌}
use mathlib.Core.Logic.{inl, inr, ◌⊎◌}
use mathlib.Core.Path.{◌≡◌, refl}
use Prim.Native.Nat.{ℕ}
use borrow.Author.Tests.{eq-eqb}
use lib.Dec.{eqb}
use Rattle.sums.proofs.Choices.{and_split, and-join, or_split, or_left, or_right, test-clash}
use Rattle.text.specs.Numbers.{newline}
use Rattle.archives.specs.Files.{begins_behind, starts_with, has_from}

-- behind one text and another
pub behind-both : (t : Bool) (x y : List ℕ) → begins_behind t (x ++ y) ≡ begins_behind (begins_behind t x) y
unfolding begins_behind
behind-both t [] y = refl
behind-both t (a ∷ x) y = behind-both (eqb a newline) x y

-- behind a byte
pub behind-last : (t : Bool) (x : List ℕ) (a : ℕ) → begins_behind t (x ++ (a ∷ [])) ≡ eqb a newline
unfolding begins_behind
behind-last t x a = behind-both t x (a ∷ [])

starts_more : (x y line : List ℕ) → starts_with x line ≡ true → starts_with (x ++ y) line ≡ true
unfolding starts_with
starts_more x y [] e = refl
starts_more [] y (b ∷ line) e = test-clash e refl
starts_more (a ∷ x) y (b ∷ line) e = let s = and_split (eqb a b) _ e in and-join s.0 (starts_more x y line s.1)

starts-itself : (line : List ℕ) → starts_with line line ≡ true
unfolding starts_with
starts-itself [] = refl
starts-itself (a ∷ line) = and-join (eq-eqb a a refl) (starts-itself line)

-- a line that a text has stays there with more behind it
pub has_more : (t : Bool) (x y line : List ℕ) → has_from t x line ≡ true → has_from t (x ++ y) line ≡ true
unfolding has_from
has_more t [] y line e = test-clash e refl
has_more t (a ∷ x) y line e = by (or_split (t && starts_with (a ∷ x) line) (has_from (eqb a newline) x line) e) (λ q. has_more (eqb a newline) x y line q)
  where
    by : ((t && starts_with (a ∷ x) line) ≡ true) ⊎ (has_from (eqb a newline) x line ≡ true)
        → (has_from (eqb a newline) x line ≡ true → has_from (eqb a newline) (x ++ y) line ≡ true)
        → (t && starts_with (a ∷ (x ++ y)) line || has_from (eqb a newline) (x ++ y) line) ≡ true
    by (inl q) r = let s = and_split t _ q in or_left _ (and-join s.0 (starts_more (a ∷ x) y line s.1))
    by (inr q) r = or_right (t && starts_with (a ∷ (x ++ y)) line) (r q)

-- and a line of the text behind is there too
pub has-behind : (t : Bool) (x y line : List ℕ) → has_from (begins_behind t x) y line ≡ true → has_from t (x ++ y) line ≡ true
unfolding begins_behind has_from
has-behind t [] y line e = e
has-behind t (a ∷ x) y line e = or_right (t && starts_with (a ∷ (x ++ y)) line) (has-behind (eqb a newline) x y line e)

-- a text that ends in a newline is a line where one begins
pub has-itself : (line : List ℕ) → begins_behind false line ≡ true → has_from true line line ≡ true
unfolding begins_behind has_from
has-itself [] e = test-clash e refl
has-itself (a ∷ line) e = or_left _ (starts-itself (a ∷ line))
