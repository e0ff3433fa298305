-- What the program `holdings` prints behind the closing line, byte by byte: all that a book has of each row held, and how much of its collateral is used.
-- Laid down in docs/DECISIONS.md, 29, and "Day files in words", 7.
use Rattle.std.specs.Prelude.{Bool, true, List, [], ◌∷◌, ◌++◌, ℕ, ◌*◌, ◌/◌, ◌%◌, eqb, leb}
use Prim.Native.Char.{code}
use Prim.Native.String.{String, [] as nothing, ◌∷◌ as ◌then◌}
use Rattle.sums.specs.Choice.{pick}
use Rattle.sums.specs.Listed.{list_to}
use Rattle.rows.specs.declared.Row.{Row}
use Rattle.rows.specs.declared.Book.{Book}
use Rattle.rows.specs.View.{View}
use Rattle.rows.specs.Rows.{collateral, row_at, number_at, view}
use Rattle.rows.specs.Modes.{has_mode, use_of}
use Rattle.table.specs.Words.{amount_of}
use Rattle.book.specs.Sound.{sound_b}
use Rattle.text.specs.Numbers.{space, newline, decimal, followed, and_spaces}
use Rattle.report.specs.declared.holding.Percent.{Percent}
use Rattle.report.specs.declared.holding.Percent.TheVariants.{Tenths, Without}
use Rattle.report.specs.Reports.{line_front, lines_of}

-- a text in plain letters, a byte for each
abbrev pub bytes_in : String → List ℕ
bytes_in nothing = []
bytes_in (letter then rest) = code letter ∷ bytes_in rest

-- document 02, K2: the use of the account at place i, in tenths: the CM's, a TM's, and of a client or CP ten margins
unfoldable pub used_at : View → ℕ → ℕ
used_at v i = pick (has_mode v i) (use_of v i) (10 * v.margin i)

-- how many tenths of a percent of the collateral are used, rounded down: use is in tenths, so that ten collaterals are 100 percent. Nothing used is 0 of any
-- collateral; what is used of none is no percent
unfoldable pub percent_of : ℕ → ℕ → Percent
percent_of used collateral = pick (eqb used 0) (Tenths 0) (pick (eqb collateral 0) Without (Tenths (100 * used / collateral)))

-- so many tenths of a percent or more; a use of no collateral is more than any
abbrev pub at_least : ℕ → Percent → Bool
at_least n (Tenths m) = leb n m
at_least n Without = true

-- `96.0`, `69.1`, or `none`
unfoldable pub percent_text : Percent → List ℕ
percent_text (Tenths n) = followed (n / 10) 46 ++ decimal (n % 10)
percent_text Without = bytes_in "none"

-- a line per row: the four received, the four allocated, pledged and margin, and how much is used
unfoldable pub holding_line : ℕ → Row → ℕ → ℕ → List ℕ
holding_line number row tm used =
    line_front number row tm ++ (and_spaces (list_to (amount_of row) 10) ++ (percent_text (percent_of used (collateral row)) ++ (newline ∷ [])))

-- the line of the row at place i, by its number and its TM's
unfoldable pub holding_at : Book → ℕ → List ℕ
holding_at b i = holding_line (number_at b i) (row_at b i) (number_at b (row_at b i).tm) (used_at (view b) i)

-- the next serial, and the number that the next opening takes: 65536 where every number is given
unfoldable pub book_line : ℕ → ℕ → List ℕ
book_line serial next = bytes_in "serial " ++ (followed serial space ++ (bytes_in "number " ++ followed next newline))

-- the line that names the columns
unfoldable pub columns : List ℕ
columns =
    bytes_in "account sort state tm "
    ++ (bytes_in "received.cash received.deposits received.guarantees received.securities "
    ++ (bytes_in "allocated.cash allocated.deposits allocated.guarantees allocated.securities " ++ bytes_in "pledged margin use\n"))

-- `holdings`: the closing line, then the book's own two numbers, the columns' names, and a line per row held. A book that is not sound has no line
unfoldable pub holdings_text : Book → List ℕ
holdings_text b = pick (sound_b b) (book_line b.serial b.next ++ (columns ++ lines_of (holding_at b) b.count)) []
