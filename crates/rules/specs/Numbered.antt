-- Document 02, K11: "Numbers are kept with their rows". A record names its account by number; the table of refusals and what a record does go by the row
-- that the number names.
use Rattle.std.specs.Prelude.{ℕ}
use Rattle.sums.specs.Choice.{unless_refused}
use Rattle.sums.specs.Sum.{only}
use Rattle.rows.specs.declared.Row.{Row}
use Rattle.rows.specs.declared.Book.{Book}
use Rattle.rows.specs.Rows.{row_at, place_of}
use Rattle.dayfile.specs.declared.Record.{Record}
use Rattle.rules.specs.declared.Change.{Change}
use Rattle.rules.specs.Refusals.{is_opening, refusal_of}
use Rattle.rules.specs.Effects.{change_of, book_after}

-- a record with its account told otherwise
abbrev pub naming : ℕ → Record → Record
naming account r = record { code = r.code; named = r.named; serial = r.serial; account = account; kinds = r.kinds; pledged = r.pledged; margin = r.margin }

-- the record with its account told by the place of the row that its number names
abbrev pub placed : Book → Record → Record
placed b r = naming (place_of b r.account) r

-- the row that its number names
abbrev pub row_named : Book → Record → Row
row_named b r = row_at b (place_of b r.account)

-- the refusal of a record at a book, or 0
abbrev pub verdict_of : Book → Record → ℕ
verdict_of b r = refusal_of b (placed b r)

-- "for an opening the number given", and 0 for any other: "The next opening takes the next number."
abbrev pub given_of : Book → Record → ℕ
given_of b r = unless_refused (verdict_of b r) (only (is_opening r) b.next) (λ n. 0)

-- what it does, and the book after it
abbrev pub act_of : Book → Record → Change
act_of b r = change_of b (placed b r)

abbrev pub record_after : Book → Record → Book
record_after b r = book_after b (place_of b r.account) (act_of b r)
