-- Only for internal functions: no promise of a public call cites it.
use Rattle.std.specs.Prelude.{List, ◌≡◌, ℕ, ◌≤◌, length, take}

-- the room's first n bytes are the file
pub record Holds (room : List ℕ) (n : ℕ) (file : List ℕ) : Type 0 where
  pub within : n ≤ length room
  pub is : take n room ≡ file
