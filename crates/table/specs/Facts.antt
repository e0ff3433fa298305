-- Facts of a table's words, for internal functions and for proofs: no promise of a public call cites it.
use Rattle.std.specs.Prelude.{List, [], ◌≡◌, ℕ, ◌≤◌, ◌<◌, length}
use Rattle.rows.specs.declared.Book.{Book}
use Rattle.table.specs.declared.Marks.{Marks}
use Rattle.table.specs.Words.{marks_from, word_at, book_from}

-- each array has its length, as in every value of the type
pub record Sized (m : Marks) (w : List ℕ) : Type 0 where
  pub sorts : length m.sort ≡ 256
  pub lives : length m.live ≡ 256
  pub tms : length m.tm ≡ 256
  pub words : length w ≡ 2560

-- amount k of each account below n is at most four ceilings, so that no sum of them passes a word
pub record Capped (w : List ℕ) (k n : ℕ) : Type 0 where
  pub each : (i : ℕ) → i < n → word_at w k i ≤ 40_000_000_000_000

-- the book as needs see it, by its sorts, TMs and words: they look neither at the serial, at who is live or in the mode, nor at what is kept
abbrev pub seen_book : ℕ → Marks → List ℕ → Book
seen_book count m w = book_from count 0 (marks_from m.sort [] m.tm) w [] [] 0 []
