-- Only for internal functions: no promise of a public call cites it.
use Rattle.std.specs.Prelude.{List, ◌≡◌, ℕ, ◌+◌, length}
use Rattle.std.proofs.lemmas.List.Edits.{sets}

-- the bytes f put into a room at a place: the place after them, and the room then
pub record Put (room : List ℕ) (at : ℕ) (f : List ℕ) (next : ℕ) (after : List ℕ) : Type 0 where
  pub place : next ≡ at + length f
  pub held : after ≡ sets room at f
