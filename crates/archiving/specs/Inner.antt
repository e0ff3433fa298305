-- Only for internal functions: no promise of a public call cites it.
use Rattle.std.specs.Prelude.{List, [], ℕ}
use Rattle.sums.specs.Choice.{pick}
use Rattle.rows.specs.declared.Book.{Book}
use Rattle.archiving.specs.Archiving.{is_retired, archived_row}

-- what row i puts into the archive
abbrev pub entry_of : Book → ℕ → List ℕ
entry_of b i = pick (is_retired b i) (archived_row b i) []
