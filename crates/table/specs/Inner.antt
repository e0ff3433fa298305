-- Only for internal functions: no promise of a public call cites it.
use Rattle.std.specs.Prelude.{List, ◌≡◌, ℕ, ◌+◌, ◌*◌, set}
use Rattle.sums.specs.Sum.{sum}
use Rattle.rows.specs.declared.Kinds.{Kinds}
use Rattle.rows.specs.declared.Row.{Row}
use Rattle.table.specs.declared.Marks.{Marks}
use Rattle.table.specs.Words.{word_at, row_in, rows_of}
use Rattle.table.specs.Facts.{Sized}

-- "The evening sums read one amount of all accounts.": amount k of the accounts below n
unfoldable pub amount_sum : List ℕ → ℕ → ℕ → ℕ
amount_sum w k n = sum n (word_at w k)

-- four amounts of account i put in their places, from number k on
abbrev pub put_kinds : List ℕ → ℕ → ℕ → Kinds → List ℕ
put_kinds w k i x =
    set (set (set (set w (256 * k + i) x.cash) (256 * (k + 1) + i) x.deposits) (256 * (k + 2) + i) x.guarantees) (256 * (k + 3) + i) x.securities

-- a row's amounts put in account i's places
abbrev pub put_row : List ℕ → ℕ → Row → List ℕ
put_row w i r = set (set (put_kinds (put_kinds w 0 i r.received) 4 i r.allocated) (256 * 8 + i) r.pledged) (256 * 9 + i) r.margin

-- a row's sort, live and TM put in account i's places
abbrev pub put_marks : Marks → ℕ → Row → Marks
put_marks m i r = record { sort = set m.sort i r.sort; live = set m.live i r.live; tm = set m.tm i r.tm }

-- account i's row is put anew as r, and no other row changes
pub record Anew (m : Marks) (w : List ℕ) (i : ℕ) (r : Row) (n : Marks) (u : List ℕ) : Type 0 where
  pub rows : rows_of n u ≡ set (rows_of m w) i r
  pub row : row_in n u i ≡ r
  pub size : Sized n u
