-- A text's parts: the first one goes up to the first mark.
use mathlib.Core.Bool.{Bool, true, false}
use mathlib.Core.List.{List, [], ◌∷◌}
use mathlib.Core.Path.{◌≡◌, refl, ap, ◌∙◌}
use Rattle.std.specs.Prelude.{position, cond, not, None, Some}
use Rattle.std.specs.List.{position_or_len}
use Rattle.std.specs.Option.{unwrap_or}
use Prim.Native.Nat.{ℕ, suc, ◌+◌, ◌-◌, ◌≤◌, ◌<◌}
use native.Mathlib.Numerals.{add-one}
use native.Mathlib.Omega.{arith}
use borrow.Author.Tests.{ltb-false}
use lib.Dec.{eqb, ltb}
use lib.ListN.{length, take, drop, length-drop}
use lib.Seq.{take_all}
use Rattle.sums.specs.Choice.{pick}
use Rattle.margins.specs.Words.{in_first, parted_by}
use Rattle.margins.specs.Inner.{in_front}

module _ (mark : ℕ) where
  most-by : (t : Bool) {k n : ℕ} → k ≤ n → pick t 0 (suc k) ≤ suc n
  unfolding pick
  most-by true h = omega arith
  most-by false h = omega arith

  pub in-front-most : (l : List ℕ) → in_front mark l ≤ length l
  unfolding in_front
  in-front-most [] = omega arith
  in-front-most (b ∷ rest) = most-by (eqb b mark) (in-front-most rest)

  whole_by : (t : Bool) (b : ℕ) (rest : List ℕ) {k : ℕ} {parts : List (List ℕ)} → (k ≡ length rest → parts ≡ rest ∷ []) → pick t 0 (suc k) ≡ suc (length rest)
      → pick t ([] ∷ parts) (in_first b parts) ≡ (b ∷ rest) ∷ []
  unfolding pick
  whole_by true b rest h e = absurd (omega arith)
  whole_by false b rest {k} {parts} h e = ap (in_first b) (h (omega arith))

  -- no mark: one part
  pub parted-whole : (l : List ℕ) → in_front mark l ≡ length l → parted_by mark l ≡ l ∷ []
  unfolding in_front parted_by
  parted-whole [] e = refl
  parted-whole (b ∷ rest) e = whole_by (eqb b mark) b rest (parted-whole rest) e

  first_by : (t : Bool) (b : ℕ) (rest : List ℕ) {k : ℕ} {parts : List (List ℕ)} → (k < length rest → parts ≡ take k rest ∷ parted_by mark (drop (suc k) rest))
      → parts ≡ parted_by mark rest → pick t 0 (suc k) < suc (length rest)
      → pick t ([] ∷ parts) (in_first b parts) ≡ take (pick t 0 (suc k)) (b ∷ rest) ∷ parted_by mark (drop (suc (pick t 0 (suc k))) (b ∷ rest))
  unfolding pick
  first_by true b rest h same e = ap (λ (p : List (List ℕ)). [] ∷ p) same
  first_by false b rest h same e = ap (in_first b) (h (omega arith))

  -- the first part, the mark, and the parts of what stands behind it
  pub parted-first : (l : List ℕ) → in_front mark l < length l → parted_by mark l ≡ take (in_front mark l) l ∷ parted_by mark (drop (suc (in_front mark l)) l)
  unfolding in_front parted_by
  parted-first [] e = absurd (omega arith)
  parted-first (b ∷ rest) e = first_by (eqb b mark) b rest (parted-first rest) refl e

  some-by : (t : Bool) (b : ℕ) (parts : List (List ℕ)) → 0 < length parts → 0 < length (pick t ([] ∷ parts) (in_first b parts))
  unfolding pick
  some-by true b parts h = omega arith
  some-by false b [] h = omega arith
  some-by false b (p ∷ parts) h = omega arith

  -- there is always a part
  pub parted-some : (l : List ℕ) → 0 < length (parted_by mark l)
  unfolding parted_by
  parted-some [] = omega arith
  parted-some (b ∷ rest) = some-by (eqb b mark) b (parted_by mark rest) (parted-some rest)

  passed : (t : Bool) {k n : ℕ} → k ≡ n → cond (not t) (1 + k) 0 ≡ pick t 0 (suc n)
  unfolding pick
  passed true e = refl
  passed false e = omega arith

  passed-front : (l : List ℕ) → position_or_len (λ b. eqb b mark) l ≡ in_front mark l
  unfolding in_front
  passed-front [] = refl
  passed-front (b ∷ rest) = passed (eqb b mark) (passed-front rest)

  at_mark : (t : Bool) (k n : ℕ) → k ≤ n → ltb k n ≡ t → unwrap_or (cond t (Some k) None) n ≡ k
  at_mark true k n h e = refl
  at_mark false k n h e = omega (arith, ltb-false k n e)

  -- the first mark's place, or all
  pub first-mark : (l : List ℕ) → unwrap_or (position (λ b. eqb b mark) l) (length l) ≡ in_front mark l
  first-mark l =
      let k = position_or_len (λ b. eqb b mark) l in
      at_mark (ltb k (length l)) k (length l) (omega (arith, passed-front l, in-front-most l)) refl ∙ passed-front l

-- what stands behind a mark at k, as a part of the text
pub behind : (l : List ℕ) (k : ℕ) → take (length l - (k + 1)) (drop (k + 1) l) ≡ drop (suc k) l
behind l k = take_all (length l - (k + 1)) (drop (k + 1) l) (simp length-drop (omega arith)) ∙ ap (λ j. drop j l) (add-one k)
