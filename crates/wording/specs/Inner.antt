-- Only for internal functions: no promise of a public call cites it.
use Rattle.std.specs.Prelude.{Bool, List, ℕ}
use Rattle.sums.specs.Choice.{pick}
use Rattle.words.specs.Texts.{File, file_from, record_turned, records_of}
use Rattle.words.specs.Pieces.{Taking, bytes_taken, text_taken}
use Rattle.wording.specs.Wording.{day_within}

-- a whole file in the other form, and what is taken of one piece
unfoldable pub turned_as : Bool → ℕ → List ℕ → File
turned_as spelling running s = pick spelling (file_from record_turned running (records_of s)) (day_within running s)

unfoldable pub taking : Bool → Bool → ℕ → ℕ → List ℕ → Taking
taking spelling last room running s = pick spelling (text_taken last room running s) (bytes_taken last room running s)
