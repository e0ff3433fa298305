-- A lent room, and what is put at its start.
use Rattle.std.specs.Prelude.{List, ◌++◌, ℕ, length, drop}

-- a text at a room's start; the room past it stays as it was
abbrev pub at_start : List ℕ → List ℕ → List ℕ
at_start text room = text ++ drop (length text) room
