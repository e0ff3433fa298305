-- Facts of the numbers of rows, for internal functions and for proofs: no promise of a public call cites it.
use Rattle.std.specs.Prelude.{List, ◌≡◌, ℕ, ◌+◌, ◌≤◌, ◌<◌, get_or}

-- K11, "rows in a sound book rise by number": of so many rows, at most 256
pub record Rising (numbers : List ℕ) (count : ℕ) : Type 0 where
  pub most : count ≤ 256
  pub up : (i j : ℕ) → i < j → j < count → get_or numbers i 0 < get_or numbers j 0

-- a row with this number, if there is one, is among width rows from lo on
pub record Near (numbers : List ℕ) (count number lo width : ℕ) : Type 0 where
  pub inside : lo + width ≤ 256
  pub there : (i : ℕ) → i < count → get_or numbers i 0 ≡ number → (lo ≤ i) × (i < lo + width)
