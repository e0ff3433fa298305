-- include/loft.h: a close-out on a book's bytes.
use Rattle.std.specs.Prelude.{List, ℕ}
use Rattle.sums.specs.Choice.{pick, unless_refused}
use Rattle.bookfile.specs.Facts.{is_two}
use Rattle.closeout.specs.declared.Closed.{Closed}
use Rattle.closeout.specs.Closing.{no_total, closed_of, room_of}
use Rattle.lent.specs.Held.{book_of}

-- "Who pays what: a loss for each row held, four amounts for each (own, its TM's, the CM's, uncovered), and what is uncovered in all. Refuses 1, 15, 16."
unfoldable pub closed_in : List ℕ → List ℕ → List ℕ → Closed
closed_in bytes losses pays = pick (is_two bytes) (closed_of (book_of bytes) losses pays) (no_total 1)

unfoldable pub pays_after : List ℕ → List ℕ → List ℕ → List ℕ
pays_after bytes losses pays = pick (is_two bytes) (room_of (book_of bytes) losses pays) pays

-- with a refusal the total stays
unfoldable pub total_after : List ℕ → List ℕ → List ℕ → ℕ → ℕ
total_after bytes losses pays total = unless_refused (closed_in bytes losses pays).refusal (closed_in bytes losses pays).total (λ n. total)
