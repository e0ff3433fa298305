-- docs/API.md, 'The book file': which bytes are a book, and which book they are.
use Rattle.std.specs.Prelude.{Bool, true, false, ◌&&◌, ◌||◌, List, ℕ, ◌+◌, ◌*◌, ◌/◌, ◌%◌, eqb, leb, length, drop, get_or}
use Rattle.sums.specs.Choice.{pick}
use Rattle.sums.specs.Listed.{list_to}
use Rattle.sums.specs.Sum.{all}
use Rattle.numbers.specs.Bytes.{number}
use Rattle.rows.specs.Rows.{fresh_book}
use Rattle.table.specs.declared.Table.{Table}
use Rattle.table.specs.Words.{turned}
use Rattle.book.specs.Placed.{place_numbers}
use Rattle.bookfile.specs.declared.Held.{Held}
use Rattle.bookfile.specs.declared.Version.{Version}
use Rattle.bookfile.specs.declared.Version.TheVariants.{One, Two}
use Rattle.bookfile.specs.Versions.{size_of, mark_of, place_at, sort_at}

-- the bytes begin with a version's mark
abbrev pub marked : Version → List ℕ → Bool
marked v file = all 4 (λ i. eqb (get_or file i 0) (get_or (mark_of v) i 0))

-- "Live and mode are 0 or 1; anything else is no book."
abbrev pub yes_or_no : Version → List ℕ → ℕ → Bool
yes_or_no v file i = leb (get_or file (sort_at v i + 1) 0) 1 && leb (get_or file (sort_at v i + 84) 0) 1

-- the bytes are a book of a version
unfoldable pub is_of : Version → List ℕ → Bool
is_of v file = eqb (length file) (size_of v) && (marked v file && all 256 (yes_or_no v file))

-- the bytes are a book of version 2, or of version 1, which "is still read"; "whether the book is sound isn't asked"
unfoldable pub is_book : List ℕ → Bool
is_book file = is_of Two file || is_of One file

-- the byte at a place says yes
abbrev pub yes_at : List ℕ → ℕ → Bool
yes_at file at = eqb (get_or file at 0) 1

-- of version 1 "the count as its next number"
abbrev pub next_in : Version → List ℕ → ℕ → ℕ
next_in One file count = count
next_in Two file count = number 4 (drop 8 file)

-- of version 1 "numbers equal to places below the count and 0 from there on"
abbrev pub numbers_in : Version → List ℕ → ℕ → List ℕ
numbers_in One file count = place_numbers count
numbers_in Two file count = list_to (λ i. number 2 (drop (place_at Two i) file)) 256

-- the book that they are by a version: behind a place's sort live at 1, the TM at 2, amount k at 4 + 8 k, the mode at 84, the kept need at 85
unfoldable pub book_by : Version → List ℕ → Table
book_by v file = record {
  count = number 2 (drop 4 file);
  serial = number 2 (drop 6 file);
  marks = record {
    sort = list_to (λ i. get_or file (sort_at v i) 0) 256;
    live = list_to (λ i. yes_at file (sort_at v i + 1)) 256;
    tm = list_to (λ i. number 2 (drop (sort_at v i + 2) file)) 256;
  };
  modes = list_to (λ i. yes_at file (sort_at v i + 84)) 256;
  needs = list_to (λ i. number 8 (drop (sort_at v i + 85) file)) 256;
  amounts = list_to (λ n. number 8 (drop (sort_at v (n % 256) + (4 + 8 * (n / 256))) file)) 2560;
  next = next_in v file (number 2 (drop 4 file));
  numbers = numbers_in v file (number 2 (drop 4 file));
}

-- the book that they are
unfoldable pub book_in : List ℕ → Table
book_in file = pick (is_of Two file) (book_by Two file) (book_by One file)

-- what the reader gives: the book, or that there is none, and then the fresh one
unfoldable pub read_of : List ℕ → Held
read_of file = pick (is_book file) (record { is_book = true; table = book_in file }) (record { is_book = false; table = turned fresh_book })
