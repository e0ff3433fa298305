-- Only for internal functions: no promise of a public call cites it.
use Rattle.std.specs.Prelude.{Bool, false, List, [], ◌∷◌, ◌++◌, ◌≡◌, ℕ, ◌-◌, ◌≤◌, ◌<◌, length, get_or, set, replicate, drop}
use Rattle.sums.specs.Choice.{pick}
use Rattle.rows.specs.declared.Book.{Book}
use Rattle.rows.specs.Rows.{no_row, places, row_at, mode_at, need_at, number_at}
use Rattle.table.specs.declared.Marks.{Marks}
use Rattle.table.specs.Words.{row_in, rows_of}
use Rattle.table.specs.Facts.{Sized}
use Rattle.gaps.specs.Gaps.{place_after, kept_to, with_tm}

-- the list l after its places below i are passed: what is kept of them, blanks, and the rest as it was
abbrev pub closed_to {ℓ} : {A : Type ℓ} → (ℕ → Bool) → (ℕ → A) → A → List A → ℕ → List A
closed_to keep f d l i = kept_to keep (λ j. f j ∷ []) i ++ (replicate (i - place_after keep i) d ++ drop i l)

-- place i of a list is made blank, and x is put at place k where it is kept
abbrev pub slid {ℓ} : {A : Type ℓ} → Bool → List A → ℕ → ℕ → A → A → List A
slid kept l k i x d = pick kept (set (set l i d) k x) (set l i d)

-- row i slides to place k where it is live, which x says; the list to has its TM's place
pub record RowSlid (m : Marks) (w to : List ℕ) (k i : ℕ) (x : Bool) (n : Marks) (u : List ℕ) : Type 0 where
  pub size : Sized n u
  pub kept : x ≡ get_or m.live i false
  pub rows : rows_of n u ≡ slid x (rows_of m w) k i (with_tm (row_in m w i) (get_or to (get_or m.tm i 0) 0)) no_row

-- what closing up asks of a book, and a sound one has
pub record Closable (b : Book) : Type 0 where
  pub most : b.count ≤ 256
  pub rows : places b ≡ 256
  pub modes : length b.modes ≡ 256
  pub needs : length b.needs ≡ 256
  pub numbers : length b.numbers ≡ 256
  pub tms : (i : ℕ) → i < b.count → (row_at b i).tm ≤ i
  pub no-row : (i : ℕ) → b.count ≤ i → row_at b i ≡ no_row
  pub no_mode : (i : ℕ) → b.count ≤ i → mode_at b i ≡ false
  pub no-need : (i : ℕ) → b.count ≤ i → need_at b i ≡ 0
  pub no_number : (i : ℕ) → b.count ≤ i → number_at b i ≡ 0
