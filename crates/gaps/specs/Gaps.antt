-- Document 02, K11: a book after its retired rows are moved to an archive.
use Rattle.std.specs.Prelude.{Bool, false, ◌||◌, List, [], ◌∷◌, ◌++◌, ℕ, zero, suc, ◌-◌, leb, replicate}
use Rattle.sums.specs.Sum.{sum, only}
use Rattle.sums.specs.Choice.{pick}
use Rattle.rows.specs.declared.Row.{Row}
use Rattle.rows.specs.declared.Book.{Book}
use Rattle.rows.specs.Rows.{no_row, row_at, mode_at, need_at, number_at}

-- how many rows below i are kept: where row i stands after the gaps are closed
unfoldable pub place_after : (ℕ → Bool) → ℕ → ℕ
place_after keep i = sum i (λ j. only (keep j) 1)

-- the lists that f gives for the numbers below n that are kept, one behind the other: "keeping the others' order"
unfoldable pub kept_to {ℓ} : {A : Type ℓ} → (ℕ → Bool) → (ℕ → List A) → ℕ → List A
kept_to keep f zero = []
kept_to keep f (suc n) = kept_to keep f n ++ pick (keep n) (f n) []

-- a row whose TM stands at another place
abbrev pub with_tm : Row → ℕ → Row
with_tm r t = record { sort = r.sort; live = r.live; tm = t; received = r.received; allocated = r.allocated; pledged = r.pledged; margin = r.margin }

-- a row that is kept, with the place where its TM stands then
abbrev pub moved_row : (ℕ → Bool) → Row → Row
moved_row keep r = with_tm r (place_after keep r.tm)

-- "moves all retired rows": a row held is kept where it is live, and so is every row to come
abbrev pub kept_of : Book → ℕ → Bool
kept_of b i = (row_at b i).live || leb b.count i

-- what f gives for the rows kept, and the rest of 256 places blank: "closes the gaps"
abbrev pub closed_up {ℓ} : {A : Type ℓ} → Book → (ℕ → A) → A → List A
closed_up b f d = kept_to (kept_of b) (λ i. f i ∷ []) b.count ++ replicate (256 - place_after (kept_of b) b.count) d

-- the book then: modes, kept needs and numbers go with their rows, the serial and the next number stay
unfoldable pub archived : Book → Book
archived b = record {
  count = place_after (kept_of b) b.count;
  serial = b.serial;
  rows = closed_up b (λ i. moved_row (kept_of b) (row_at b i)) no_row;
  modes = closed_up b (mode_at b) false;
  needs = closed_up b (need_at b) 0;
  next = b.next;
  numbers = closed_up b (number_at b) 0;
}
