-- Document 02, K11: "Add a call that moves all retired rows, in rising number, to a lent archive and closes the gaps".
use Rattle.std.specs.Prelude.{not, List, [], ◌∷◌, ℕ, ◌*◌, ltb, length}
use Rattle.sums.specs.Choice.{unless_refused}
use Rattle.sums.specs.Room.{at_start}
use Rattle.sums.specs.Table.{Line, ◌when◌, first}
use Rattle.rows.specs.declared.Book.{Book}
use Rattle.table.specs.Words.{turned}
use Rattle.book.specs.Sound.{sound_b}
use Rattle.gaps.specs.Gaps.{archived}
use Rattle.archiving.specs.Archiving.{retired_of, archive_of}
use Rattle.archival.specs.declared.Archived.{Archived}

-- "1: the book isn't sound"; "23, the archive is too short, after 1": "An archived row is three numbers"
abbrev pub archive_refusals : Book → List ℕ → List Line
archive_refusals b room = (1 when not (sound_b b)) ∷ (23 when ltb (length room) (3 * retired_of b)) ∷ []

-- the first that applies, or 0
unfoldable pub archive_refusal : Book → List ℕ → ℕ
archive_refusal b room = first (archive_refusals b room)

-- what the call gives: with a refusal "nothing moved"
unfoldable pub archived_of : Book → List ℕ → Archived
archived_of b room =
    unless_refused (archive_refusal b room) (record { refusal = 0; moved = retired_of b; table = turned (archived b) })
    (λ n. record { refusal = n; moved = 0; table = turned b })

-- the lent archive after it: "Archive room not needed stays unchanged."
unfoldable pub archive_room : Book → List ℕ → List ℕ
archive_room b room = unless_refused (archive_refusal b room) (at_start (archive_of b) room) (λ n. room)
