-- include/loft.h: what a book's bytes are asked. Each answer is that of the public call on the book in them.
use Rattle.std.specs.Prelude.{Bool, List, [], ◌∷◌, ℕ, eqb, length}
use Rattle.sums.specs.Choice.{pick, unless_refused}
use Rattle.book.specs.declared.Figures.{Figures}
use Rattle.book.specs.Asked.{standing_of}
use Rattle.book.specs.NeedsListed.{needs_refusal, needs_room}
use Rattle.bookfile.specs.Facts.{is_two}
use Rattle.bookfile.specs.Written.{yes_no}
use Rattle.passing.specs.declared.Largest.{Largest}
use Rattle.passing.specs.Most.{most_of}
use Rattle.statement.specs.Statements.{statement_finding}
use Rattle.lent.specs.Held.{book_of, lent_refusal}
use Rattle.embedded.specs.Records.{record_of}

-- ---- an account's standing

-- "An account's figures, LOFT_FIGURES of them"
abbrev pub are_seven : List ℕ → Bool
are_seven figures = eqb (length figures) 7

-- "collateral, need, blocked, deemed, free, mode (1 where it is on), shortfall"
abbrev pub listed : Figures → List ℕ
listed f = f.collateral ∷ f.need ∷ f.blocked ∷ f.deemed ∷ f.free ∷ yes_no f.mode ∷ f.shortfall ∷ []

-- "Refuses 1, 15, 7."
unfoldable pub standing_refusal : List ℕ → ℕ → List ℕ → ℕ
standing_refusal bytes account figures = unless_refused (lent_refusal bytes (are_seven figures)) (standing_of (book_of bytes) account).refusal (λ n. n)

-- with a refusal they stay
unfoldable pub standing_after : List ℕ → ℕ → List ℕ → List ℕ
standing_after bytes account figures = unless_refused (standing_refusal bytes account figures) (listed (standing_of (book_of bytes) account)) (λ n. figures)

-- ---- how much would pass

-- "The largest amount with which a record of this code, mark byte and account is carried out. Refuses 1, 4, 5, 7, and whatever refuses even the least
-- amount."
unfoldable pub largest_in : List ℕ → ℕ → ℕ → ℕ → Largest
largest_in bytes code named account = pick (is_two bytes) (most_of (book_of bytes) (record_of 0 code named account [])) (record { refusal = 1; amount = 0 })

-- with a refusal the amount stays
unfoldable pub most_after : List ℕ → ℕ → ℕ → ℕ → ℕ → ℕ
most_after bytes code named account amount = unless_refused (largest_in bytes code named account).refusal (largest_in bytes code named account).amount (λ n. amount)

-- ---- all needs

-- "Every account's need, one for each row held. Refuses 1, 15."
unfoldable pub needs_refused : List ℕ → List ℕ → ℕ
needs_refused bytes needs = pick (is_two bytes) (needs_refusal (book_of bytes) needs) 1

unfoldable pub needs_after : List ℕ → List ℕ → List ℕ
needs_after bytes needs = pick (is_two bytes) (needs_room (book_of bytes) needs) needs

-- ---- a TM's statement

-- "Holds a TM's statement against the book. Refuses 1, 7, 8, 24 to 29."
unfoldable pub statement_refusal : List ℕ → ℕ → List ℕ → ℕ
statement_refusal bytes tm piece = pick (is_two bytes) (statement_finding (book_of bytes) tm piece).refusal 1
