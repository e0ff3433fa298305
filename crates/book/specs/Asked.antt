-- "A standing is asked with a book and an account number: refusals 1, 7, and all five figures 0."
use Rattle.std.specs.Prelude.{Bool, false, not, List, [], ◌∷◌, ℕ, ◌-◌, eqb}
use Rattle.sums.specs.Sum.{only}
use Rattle.sums.specs.Choice.{unless_refused}
use Rattle.sums.specs.Table.{Line, ◌when◌, first}
use Rattle.rows.specs.declared.Book.{Book}
use Rattle.book.specs.declared.Figures.{Figures}
use Rattle.rows.specs.View.{View, need_cm, need, blocked, deemed, free}
use Rattle.rows.specs.Rows.{place_of, mode_at, view, is_live}
use Rattle.book.specs.Sound.{sound_b}

-- "1: the book isn't sound"; "7: the account is not live, or its number was never given"; document 02, K11: "a number in the archive gives 7", as one that
-- no row held has
abbrev pub standing_refusals : Book → ℕ → List Line
standing_refusals b number = (1 when not (sound_b b)) ∷ (7 when not (is_live b (place_of b number))) ∷ []

-- the first that applies, or 0
unfoldable pub standing_refusal : Book → ℕ → ℕ
standing_refusal b number = first (standing_refusals b number)

-- document 02, K8: "The shortfall is the CM's need less its collateral, or 0"
abbrev pub shortfall : View → ℕ
shortfall v = need_cm v - v.collateral 0

-- "A standing gives these five: collateral, need, blocked, deemed, free."; document 02, K2: "Mode is .. shown in a standing"; K8: the shortfall "is
-- shown in a standing of account 0", and 0 in any other
abbrev pub figures_of : View → Bool → ℕ → Figures
figures_of v mode i = record {
  refusal = 0;
  collateral = v.collateral i;
  need = need v i;
  blocked = blocked v i;
  deemed = deemed v i;
  free = free v i;
  mode = mode;
  shortfall = only (eqb i 0) (shortfall v);
}

-- "and all five figures 0": the mode is off, and no shortfall is shown
abbrev pub no_figures : ℕ → Figures
no_figures n = record { refusal = n; collateral = 0; need = 0; blocked = 0; deemed = 0; free = 0; mode = false; shortfall = 0 }

-- what a standing gives
unfoldable pub standing_of : Book → ℕ → Figures
standing_of b number = unless_refused (standing_refusal b number) (figures_of (view b) (mode_at b (place_of b number)) (place_of b number)) no_figures
