-- Files that are turned piece by piece: what is taken of a piece, and what is put into a lent room.
use Rattle.std.specs.Prelude.{ℕ, suc, ◌+◌, ◌-◌, Bool, true, false, ◌&&◌, ◌||◌, List, [], ◌∷◌, ◌++◌, length, ◌==◌, nat_le}
use Rattle.sums.specs.Choice.{pick}
use Rattle.dayfile.specs.declared.Found.{Found}
use Rattle.dayfile.specs.declared.Found.TheVariants.{End as NoBytes, Cut as TooFew, Whole}
use Rattle.dayfile.specs.Reading.{found_at}
use Rattle.words.specs.declared.Taken.{Taken}
use Rattle.words.specs.Texts.{Turned, puts, fails, lines_of, line_turned, records_of, record_turned}

-- what was put; how much of the piece was taken and how many lines or records that is; the running serial then; and the fault of the line at that place, or 0
pub record Taking : Type 0 where
  pub bytes : List ℕ
  pub place : ℕ
  pub lines : ℕ
  pub running : ℕ
  pub fault : ℕ

abbrev pub stop : ℕ → ℕ → Taking
stop running fault = record { bytes = []; place = 0; lines = 0; running = running; fault = fault }

-- behind a part x that comes to y
abbrev pub after : List ℕ → List ℕ → Taking → Taking
after x y t = record { bytes = y ++ t.bytes; place = length x + t.place; lines = suc t.lines; running = t.running; fault = t.fault }

unfoldable pub taken_by : List ℕ → ℕ → Turned → (List ℕ → ℕ → Taking) → Taking
taken_by x running (puts y next) go = after x y (go y next)
taken_by x running (fails n) go = stop running n

-- parts are taken one after the other while the next one is there as a whole and the room left surely holds what it comes to: `most` bytes
unfoldable pub taken_from : (List ℕ → Bool) → ℕ → (ℕ → List ℕ → Turned) → ℕ → ℕ → List (List ℕ) → Taking
taken_from ready most turn room running [] = stop running 0
taken_from ready most turn room running (x ∷ xs) =
    pick (ready x && nat_le most room) (taken_by x running (turn running x) (λ y next. taken_from ready most turn (room - length y) next xs)) (stop running 0)

-- a line with its newline; "The last line may lack its newline."
unfoldable pub ended : List ℕ → Bool
ended [] = false
ended (b ∷ []) = b == 10
ended (b ∷ c ∷ l) = ended (c ∷ l)

-- a line means 70 bytes at most
abbrev pub bytes_taken : Bool → ℕ → ℕ → List ℕ → Taking
bytes_taken last room running text = taken_from (λ l. last || ended l) 70 line_turned room running (lines_of text)

-- a record with all its bytes; a cut end is one only where no more bytes come
abbrev pub is_whole : Found → Bool
is_whole NoBytes = false
is_whole TooFew = false
is_whole (Whole r next) = true

-- a record's line has 205 bytes at most
abbrev pub text_taken : Bool → ℕ → ℕ → List ℕ → Taking
text_taken last room running bytes = taken_from (λ x. last || is_whole (found_at x 0)) 205 record_turned room running (records_of bytes)

-- the same as a call's answer
abbrev pub told_of : Taking → Taken
told_of t = record { place = t.place; lines = t.lines; count = length t.bytes; running = t.running; fault = t.fault }
