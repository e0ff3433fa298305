-- Document 02, K12: the table by amount, turned over and back.
use Rattle.std.specs.Prelude.{Bool, false, List, [], ◌∷◌, ℕ, ◌+◌, ◌*◌, ◌/◌, ◌%◌, get_or}
use Rattle.sums.specs.Listed.{list_to}
use Rattle.rows.specs.declared.Kinds.{Kinds}
use Rattle.rows.specs.declared.Row.{Row}
use Rattle.rows.specs.declared.Book.{Book}
use Rattle.rows.specs.Rows.{row_at}
use Rattle.table.specs.declared.Marks.{Marks}
use Rattle.table.specs.declared.Table.{Table}

-- "Store the table by amount and then by account.": amount k of account i
abbrev pub word_at : List ℕ → ℕ → ℕ → ℕ
word_at w k i = get_or w (256 * k + i) 0

-- four amounts from number k on
abbrev pub kinds_from : (ℕ → ℕ) → ℕ → Kinds
kinds_from f k = record { cash = f k; deposits = f (k + 1); guarantees = f (k + 2); securities = f (k + 3) }

-- a row by its amounts: 0 to 3 received, 4 to 7 allocated, 8 pledged, 9 margin
abbrev pub row_from : ℕ → Bool → ℕ → (ℕ → ℕ) → Row
row_from sort live tm f = record { sort = sort; live = live; tm = tm; received = kinds_from f 0; allocated = kinds_from f 4; pledged = f 8; margin = f 9 }

-- amount k of a row
abbrev pub amount_of : Row → ℕ → ℕ
amount_of r k =
    get_or (r.received.cash ∷ r.received.deposits ∷ r.received.guarantees ∷ r.received.securities
    ∷ r.allocated.cash ∷ r.allocated.deposits ∷ r.allocated.guarantees ∷ r.allocated.securities ∷ r.pledged ∷ r.margin ∷ []) k 0

-- each account's sort, live and TM, which are no amounts
abbrev pub marks_from : List ℕ → List Bool → List ℕ → Marks
marks_from sort live tm = record { sort = sort; live = live; tm = tm }

-- account i's row, gathered
abbrev pub row_in : Marks → List ℕ → ℕ → Row
row_in m w i = row_from (get_or m.sort i 0) (get_or m.live i false) (get_or m.tm i 0) (λ k. word_at w k i)

-- the old order's rows
unfoldable pub rows_of : Marks → List ℕ → List Row
rows_of m w = list_to (row_in m w) 256

-- "turning over": the old order's book, by amount
unfoldable pub turned : Book → Table
turned b = record {
  count = b.count;
  serial = b.serial;
  marks = record {
    sort = list_to (λ i. (row_at b i).sort) 256;
    live = list_to (λ i. (row_at b i).live) 256;
    tm = list_to (λ i. (row_at b i).tm) 256;
  };
  modes = b.modes;
  needs = b.needs;
  next = b.next;
  numbers = b.numbers;
  amounts = list_to (λ n. amount_of (row_at b (n % 256)) (n / 256)) 2560;
}

-- "the old order": the book that the words, the modes and the kept needs are
abbrev pub book_from : ℕ → ℕ → Marks → List ℕ → List Bool → List ℕ → ℕ → List ℕ → Book
book_from count serial m w modes needs next numbers = record { count = count; serial = serial; rows = rows_of m w; modes = modes; needs = needs; next = next; numbers = numbers }

-- "and back": the table as a book of the old order.
abbrev pub turned_back : Table → Book
turned_back t = book_from t.count t.serial t.marks t.amounts t.modes t.needs t.next t.numbers
