-- What the theorems of document 02's K13 speak of: a statement that is right, and the first record at fault. No promise of a public call cites it.
use Rattle.std.specs.Prelude.{true, List, [], ◌∷◌, ◌++◌, ◌≡◌, ℕ, ◌+◌, ◌≤◌}
use Rattle.sums.specs.Table.{Given}
use Rattle.rows.specs.declared.Row.{Row}
use Rattle.rows.specs.declared.Book.{Book}
use Rattle.rows.specs.Rows.{row_at, number_at, place_of, is_live}
use Rattle.book.specs.Sound.{sound_b}
use Rattle.statement.specs.declared.Finding.{Finding}
use Rattle.statement.specs.declared.records.Parts.{Parts}
use Rattle.statement.specs.Forms.{record_for}
use Rattle.statement.specs.Statements.{total_of, record_faults, surplus_faults, found}

-- neither 1, 7 nor 8: the book is sound, and the account is a live TM
pub record OfTM (b : Book) (tm : ℕ) : Type 0 where
  pub sound : sound_b b ≡ true
  pub live : is_live b (place_of b tm) ≡ true
  pub sort : (row_at b (place_of b tm)).sort ≡ 1

-- five amounts that are right for a client with this row
pub record Right (row : Row) (p : Parts) : Type 0 where
  -- "retained by TM plus placed with CM is received;"
  pub tm : p.retained + p.placed ≡ p.received
  -- "retained by CM plus placed with the corporation is placed with CM;"
  pub cm : p.held + p.lodged ≡ p.placed
  -- "received is the book's total;"
  pub all : p.received ≡ total_of row.received
  -- "and the book's allocated total is not below what is placed with the corporation."
  pub enough : p.lodged ≤ total_of row.allocated

-- a statement "so written" for the clients at these places: a record for each, with amounts that are right for it, in their order, and nothing else
pub data SoWritten (b : Book) : List ℕ → List ℕ → Type 0 where
  none : SoWritten b [] []
  also : {i : ℕ} {is l : List ℕ} (p : Parts) → Right (row_at b i) p → SoWritten b is l → SoWritten b (i ∷ is) (record_for (number_at b i) p ++ l)

-- "by first record at fault": from record k on, for the clients at these places, what is found
pub data AtFault (b : Book) : ℕ → List ℕ → List ℕ → Finding → Type 0 where
  -- the record at k is so written, and the first fault is behind it
  passed : {k i : ℕ} {is l : List ℕ} {f : Finding} (p : Parts) → Right (row_at b i) p → AtFault b (k + 1) is l f → AtFault b k (i ∷ is) (record_for (number_at b i) p ++ l) f
  -- the next live client's record is at fault, with the first number that applies
  bad : {k i x n : ℕ} {is l : List ℕ} → Given n (record_faults b i (x ∷ l)) → AtFault b k (i ∷ is) (x ∷ l) (found n k (number_at b i))
  -- "at the end: one still wanting"
  wanting : {k i : ℕ} {is : List ℕ} → AtFault b k (i ∷ is) [] (found 26 k (number_at b i))
  -- bytes are left behind the last live client's record, and no account is wanted
  surplus : {k x n : ℕ} {l : List ℕ} → Given n (surplus_faults (x ∷ l)) → AtFault b k [] (x ∷ l) (found n k 0)
