-- Document 02, K11: "moves all retired rows, in rising number, to a lent archive".
use Rattle.std.specs.Prelude.{Bool, not, List, [], ◌∷◌, ℕ, eqb}
use Rattle.sums.specs.Sum.{sum, only}
use Rattle.sums.specs.Choice.{pick}
use Rattle.rows.specs.declared.Book.{Book}
use Rattle.rows.specs.Rows.{row_at, number_at}
use Rattle.gaps.specs.Gaps.{kept_to}

-- the row at place i is retired
abbrev pub is_retired : Book → ℕ → Bool
is_retired b i = not (row_at b i).live

-- how many of the rows held are
abbrev pub retired_of : Book → ℕ
retired_of b = sum b.count (λ i. only (is_retired b i) 1)

-- "An archived row is three numbers: its own, its opening code, its TM's or 0."
abbrev pub archived_row : Book → ℕ → List ℕ
archived_row b i = number_at b i ∷ (row_at b i).sort ∷ pick (eqb (row_at b i).sort 2) (number_at b (row_at b i).tm) 0 ∷ []

-- the archive: all of them one behind the other
abbrev pub archive_of : Book → List ℕ
archive_of b = kept_to (is_retired b) (archived_row b) b.count
