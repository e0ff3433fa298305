-- "The reader works over a lent piece of the day file and remembers its place."
use Rattle.std.specs.Prelude.{ℕ, List}
use Rattle.std.specs.Borrow.{Bor}
use Rattle.dayfile.specs.declared.Read.{Read}
use Rattle.dayfile.specs.declared.reader.Reader.{Reader}
use Rattle.dayfile.specs.Reading.{read_at}

-- a reader at the start of a piece
abbrev pub start_of : Bor (List ℕ) → Reader
start_of piece = record { piece = piece; place = 0 }

-- what stands at a reader's place
abbrev pub read_by : Reader → Read
read_by r = read_at r.piece.now r.place

-- a reader of the same piece at another place
abbrev pub moved_to : Reader → ℕ → Reader
moved_to r place = record { piece = r.piece; place = place }
