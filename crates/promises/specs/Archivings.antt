-- Document 02, K11: what two books have in common of which one is the other without its archived rows; records and archivings, one after the other.
use Rattle.std.specs.Prelude.{true, List, [], ◌∷◌, ◌≡◌, ℕ}
use Rattle.rows.specs.declared.Book.{Book}
use Rattle.rows.specs.Rows.{row_at, number_at, place_of, is_live}
use Rattle.book.specs.Asked.{standing_of}
use Rattle.gaps.specs.Gaps.{with_tm, archived}
use Rattle.dayfile.specs.declared.Record.{Record}
use Rattle.desk.specs.declared.Answer.{Answer}
use Rattle.desk.specs.Answers.{refusal_in}
use Rattle.desk.specs.Steps.{step_of}
use Rattle.thinned.specs.Given.{Event, carry, archive}
use Rattle.records.specs.Runs.{Ran}

-- c is b but for archived rows: "Every standing .. is the one before it", by number; and each live account's row is the one that it was, its TM's place that
-- of the row which has its TM's number
pub record ButForArchived (b c : Book) : Type 0 where
  pub serial : c.serial ≡ b.serial
  pub next : c.next ≡ b.next
  pub standings : (n : ℕ) → standing_of c n ≡ standing_of b n
  pub accounts : (n : ℕ) → is_live b (place_of b n) ≡ true
      → row_at c (place_of c n) ≡ with_tm (row_at b (place_of b n)) (place_of c (number_at b (row_at b (place_of b n)).tm))

-- two runs over a piece that read the same records and end alike, with such books
pub record AlikeButForArchived (x y : Ran) : Type 0 where
  pub place : y.place ≡ x.place
  pub closing : y.closing ≡ x.closing
  pub read : y.read ≡ x.read
  pub done : y.done ≡ x.done
  pub books : ButForArchived x.book y.book

-- the answers to records handed over one after the other
unfoldable pub answers_to : Book → List Record → List Answer
answers_to b [] = []
answers_to b (r ∷ rs) = (step_of b r).answer ∷ answers_to (step_of b r).book rs

-- "refusal 9 excepted": none of the answers is 9
unfoldable pub NoneIsNine : List Answer → Type 0
NoneIsNine [] = Unit
NoneIsNine (a ∷ rest) = (refusal_in a.outcome ≡ 9 → ⊥) × NoneIsNine rest

-- the book after records and archivings
unfoldable pub events_after : Book → List Event → Book
events_after b [] = b
events_after b (carry r ∷ es) = events_after (step_of b r).book es
events_after b (archive ∷ es) = events_after (archived b) es
