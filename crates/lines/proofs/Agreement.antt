-- The call that writes lines and `run::day` agree; at an unsound book it leaves the room.
use mathlib.Core.Bool.{false}
use mathlib.Core.List.{List, []}
use mathlib.Core.Path.{◌≡◌, refl, ap}
use Prim.Native.Nat.{ℕ}
use Rattle.sums.specs.Room.{at_start}
use Rattle.sums.proofs.Choices.{pick_no}
use Rattle.rows.specs.declared.Book.{Book}
use Rattle.rows.specs.Rows.{places}
use Rattle.table.specs.Words.{turned, turned_back}
use Rattle.table.proofs.Turning.{over-and-back}
use Rattle.book.specs.Sound.{sound_b}
use Rattle.run.specs.declared.Ended.{Ended}
use Rattle.records.specs.Runs.{ran_of}
use Rattle.run.specs.Over.{over_ran}
use Rattle.records.specs.LineNumbers.{answers_of}
use Rattle.lines.specs.declared.Lined.{Lined}
use Rattle.lines.specs.Lines.{lines_of}
use Rattle.lines.specs.Texts.{limit_of, text_of, lined_of}

-- a result without its text
abbrev pub ended_in : Lined → Ended
ended_in l = record { table = l.table; place = l.place; closing = l.closing; read = l.read; done = l.done }

-- what `lines(b, piece, most, room)` gives is what `day(b, piece, n)` gives, with n the limit of that call
pub same-as-day : (b : Book) (piece : List ℕ) (most : ℕ) (room : List ℕ) → ended_in (lined_of b piece (limit_of most room)) ≡ over_ran (ran_of b piece (limit_of most room))
unfolding lined_of
same-as-day b piece most room = refl

-- an unsound book has no lines, and the room stays as it was
pub unsound-leaves-room : (b : Book) (piece : List ℕ) (most : ℕ) (room : List ℕ) → sound_b b ≡ false → at_start (text_of b piece most) room ≡ room
unfolding text_of
unsound-leaves-room b piece most room e = ap (λ x. at_start x room) (pick_no (sound_b b) (lines_of (answers_of piece most b 0)) [] e)

-- K12: at a book of the old order, turned over, the call gives what it gives at the book
pub lines-as : (b : Book) (piece : List ℕ) (most : ℕ) → places b ≡ 256
    → (lined_of (turned_back (turned b)) piece most ≡ lined_of b piece most) × (text_of (turned_back (turned b)) piece most ≡ text_of b piece most)
lines-as b piece most h = (ap (λ c. lined_of c piece most) (over-and-back b h), ap (λ c. text_of c piece most) (over-and-back b h))
