-- Which refusal a standing gives, the answer with it, and the shortfall that it shows.
use mathlib.Core.Path.{◌≡◌, refl, ap, ◌∙◌}
use mathlib.Core.Bool.{true, false, not}
use mathlib.Core.List.{[], ◌∷◌}
use Prim.Native.Nat.{ℕ, zero, suc}
use native.Mathlib.Omega.{arith}
use native.Mathlib.Decide.{ℕ_discrete}
use borrow.Author.Tests.{ne_eqb}
use lib.Dec.{eqb}
use Rattle.sums.specs.Choice.{unless_refused}
use Rattle.sums.specs.Sum.{only}
use Rattle.sums.specs.Table.{◌when◌, first}
use Rattle.sums.proofs.Tables.{first-here, first-later}
use Rattle.rows.specs.declared.Book.{Book}
use Rattle.book.specs.declared.Figures.{Figures}
use Rattle.rows.specs.View.{View, deemed}
use Rattle.rows.specs.Facts.{Shaped}
use Rattle.rows.specs.Rows.{mode_at, place_of, view, is_live}
use Rattle.rows.proofs.BySort.{need-CM}
use Rattle.book.specs.Sound.{sound_b}
use Rattle.book.specs.Asked.{standing_refusal, no_figures, shortfall, figures_of, standing_of}

module _ (b : Book) (i : ℕ) where
  pub unsound-refused : sound_b b ≡ false → standing_refusal b i ≡ 1
  unfolding standing_refusal
  unsound-refused e = first-here 1 (not (sound_b b)) ((7 when not (is_live b (place_of b i))) ∷ []) (ap not e)

  pub dead-refused : sound_b b ≡ true → is_live b (place_of b i) ≡ false → standing_refusal b i ≡ 7
  unfolding standing_refusal
  dead-refused e l =
      first-later 1 (not (sound_b b)) ((7 when not (is_live b (place_of b i))) ∷ []) (ap not e) ∙ first-here 7 (not (is_live b (place_of b i))) [] (ap not l)

  pub live-answered : sound_b b ≡ true → is_live b (place_of b i) ≡ true → standing_refusal b i ≡ 0
  unfolding standing_refusal first
  live-answered e l =
      first-later 1 (not (sound_b b)) ((7 when not (is_live b (place_of b i))) ∷ []) (ap not e) ∙ first-later 7 (not (is_live b (place_of b i))) [] (ap not l)

  pub standing_by : {r : Figures} (n : ℕ) → standing_refusal b i ≡ n → r ≡ unless_refused n (figures_of (view b) (mode_at b (place_of b i)) (place_of b i)) no_figures → r ≡ standing_of b i
  unfolding standing_of
  standing_by n e h = rw e h

  -- the number of the answer is the refusal
  pub standing-number : (standing_of b i).refusal ≡ standing_refusal b i
  unfolding standing_of
  standing-number = by (standing_refusal b i)
    where
      by : (n : ℕ) → (unless_refused n (figures_of (view b) (mode_at b (place_of b i)) (place_of b i)) no_figures).refusal ≡ n
      by zero = refl
      by (suc n) = refl

-- what is shown as the shortfall: of account 0 what it is deemed, which is its need less its collateral
pub shown : (v : View) → Shaped v → (i : ℕ) → only (eqb i 0) (deemed v i) ≡ only (eqb i 0) (shortfall v)
shown v s i = by (ℕ_discrete i 0)
  where
    by : Dec (i ≡ 0) → only (eqb i 0) (deemed v i) ≡ only (eqb i 0) (shortfall v)
    by (yes e) = rw e (omega (arith, need-CM v 0 s.top))
    by (no n) = rw (ne_eqb i 0 n)
