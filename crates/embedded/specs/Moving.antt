-- include/loft.h: retired rows moved to an archive, and a book taken over, on a book's bytes.
use Rattle.std.specs.Prelude.{List, ℕ}
use Rattle.sums.specs.Choice.{pick, unless_refused}
use Rattle.book.specs.TakeOver.{take_over_refusal, taken_over}
use Rattle.bookfile.specs.Facts.{is_two}
use Rattle.bookfile.specs.Written.{written_of}
use Rattle.archival.specs.Archive.{archived_of, archive_room}
use Rattle.lent.specs.Held.{book_of, bytes_of}

-- ---- the archive

-- "Moves all retired rows to the archive". "Refuses 1, 23."
unfoldable pub archive_refused : List ℕ → List ℕ → ℕ
archive_refused bytes entries = pick (is_two bytes) (archived_of (book_of bytes) entries).refusal 1

-- with a refusal nothing changes
unfoldable pub archive_book : List ℕ → List ℕ → List ℕ
archive_book bytes entries = unless_refused (archive_refused bytes entries) (written_of (archived_of (book_of bytes) entries).table) (λ n. bytes)

-- "three numbers each into `entries`"; "What is behind them in `entries` stays."
unfoldable pub archive_entries : List ℕ → List ℕ → List ℕ
archive_entries bytes entries = pick (is_two bytes) (archive_room (book_of bytes) entries) entries

-- "and how many moved"
unfoldable pub archive_moved : List ℕ → List ℕ → ℕ → ℕ
archive_moved bytes entries moved = unless_refused (archive_refused bytes entries) (archived_of (book_of bytes) entries).moved (λ n. moved)

-- ---- taking over

-- "Takes a book over from the old rule to the one by which government securities count less a tenth (K7). Refuses 1."
unfoldable pub take_over_refused : List ℕ → ℕ
take_over_refused bytes = pick (is_two bytes) (take_over_refusal (book_of bytes)) 1

unfoldable pub taken_over_book : List ℕ → List ℕ
taken_over_book bytes = unless_refused (take_over_refused bytes) (bytes_of (taken_over (book_of bytes))) (λ n. bytes)
