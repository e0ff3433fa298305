-- The lines of all rows from a list beside them, for which a book is tested once: only for internal functions.
use Rattle.std.specs.Prelude.{Bool, true, List, ◌≡◌, ℕ, ◌+◌, ◌*◌, ◌≤◌, ◌<◌, length, get_or}
use Rattle.sums.specs.Choice.{pick}
use Rattle.sums.specs.Sum.{only}
use Rattle.rows.specs.declared.Row.{Row}
use Rattle.rows.specs.declared.Book.{Book}
use Rattle.rows.specs.View.{need, blocked_of, deemed_of, free_of}
use Rattle.rows.specs.Rows.{collateral, view}
use Rattle.rows.specs.Facts.{InRange}
use Rattle.book.specs.declared.Figures.{Figures}
use Rattle.book.specs.Sound.{sound_b}
use Rattle.book.specs.Asked.{no_figures}
use Rattle.report.specs.declared.listing.Sheet.{Sheet}
use Rattle.report.specs.declared.listing.Sheet.TheVariants.{Standings, Holdings}
use Rattle.report.specs.Reports.{standing_line, line_at}
use Rattle.report.specs.Holdings.{used_at, holding_line, holding_at}

-- the figures of an account with this collateral, need and mode; the CM's shows the shortfall
abbrev pub figures_from : ℕ → ℕ → Bool → Bool → Figures
figures_from c n mode top = record {
  refusal = 0;
  collateral = c;
  need = n;
  blocked = blocked_of n c;
  deemed = deemed_of n c;
  free = free_of n c;
  mode = mode;
  shortfall = only top (deemed_of n c);
}

-- a row's, in a book that is sound or not
abbrev pub figures_by : Bool → Row → ℕ → Bool → Bool → Figures
figures_by sound r n mode top = pick sound (pick r.live (figures_from (collateral r) n mode top) (no_figures 7)) (no_figures 1)

-- whether a book is sound was found, and the list has the needs of its first rows
pub record Tested (b : Book) (sound : Bool) (needs : List ℕ) : Type 0 where
  pub is : sound_b b ≡ sound
  pub held : sound ≡ true → length needs ≡ b.count
  pub each : sound ≡ true → (i : ℕ) → i < length needs → get_or needs i 0 ≡ need (view b) i

-- a book was found sound, and the list has what is in excess under each row (K2)
pub record InExcess (b : Book) (sound : Bool) (under : List ℕ) : Type 0 where
  pub is : sound_b b ≡ true
  pub found : sound ≡ true
  pub held : length under ≡ b.count
  pub each : (i : ℕ) → i < length under → used_at (view b) i ≡ 10 * (view b).margin i + get_or under i 0
  pub most : (i : ℕ) → i < length under → get_or under i 0 ≤ 25_600_000_000_000_000

-- the list that the lines of a sheet are made by
abbrev pub Beside : Sheet → Book → Bool → List ℕ → Type 0
Beside Standings b sound list = Tested b sound list
Beside Holdings b sound list = InExcess b sound list

-- the line of a row, by what the list has beside it
abbrev pub line_by : Sheet → ℕ → Row → ℕ → Bool → ℕ → Bool → Bool → List ℕ
line_by Standings number r tm sound x mode top = standing_line number r tm (figures_by sound r x mode top)
line_by Holdings number r tm sound x mode top = holding_line number r tm (10 * r.margin + x)

-- what that asks of the row
abbrev pub Shown : Sheet → Bool → Row → ℕ → Type 0
Shown Standings sound r x = sound ≡ true → InRange r
Shown Holdings sound r x = InRange r × (x ≤ 25_600_000_000_000_000)

-- the line of the row at a place
abbrev pub line_of : Sheet → Book → ℕ → List ℕ
line_of Standings b i = line_at b i
line_of Holdings b i = holding_at b i
