-- Document 02, K12: "Prove that turning over and back changes nothing, and that every call answers as on the old order and leaves the
-- old one's book, turned over." Each call promises what the old order's definition says at `turned_back t`; here t is any book of the old order, turned over.
use mathlib.Core.List.{List}
use mathlib.Core.Path.{◌≡◌, ap}
use Prim.Native.Nat.{ℕ}
use Rattle.rows.specs.declared.Book.{Book}
use Rattle.rows.specs.Rows.{places}
use Rattle.table.specs.declared.Table.{Table}
use Rattle.table.specs.Words.{turned, turned_back}
use Rattle.table.specs.Facts.{Sized}
use Rattle.table.proofs.Turning.{over-and-back, back-and-over}
use Rattle.book.specs.Sound.{sound_b}
use Rattle.book.specs.Asked.{standing_of}
use Rattle.book.specs.NeedsListed.{needs_refusal, needs_room}
use Rattle.book.specs.Evening.{evening_of}
use Rattle.archival.specs.Archive.{archived_of, archive_room}
use Rattle.book.specs.TakeOver.{take_over_refusal, taken_over}
use Rattle.book.specs.declared.Amount.{Amount}
use Rattle.dayfile.specs.declared.Record.{Record}
use Rattle.desk.specs.Steps.{step_of, next_of}
use Rattle.desk.specs.Over.{over_done, over_next}
use Rattle.records.specs.Runs.{ran_of}
use Rattle.records.specs.LineNumbers.{numbers_room}
use Rattle.run.specs.Over.{over_ran}
use Rattle.closeout.specs.Closing.{closed_of, room_of}

-- "turning over and back changes nothing": a book of 256 rows, as the type has it
pub turning-over-and-back : (b : Book) → places b ≡ 256 → turned_back (turned b) ≡ b
turning-over-and-back = over-and-back

-- and a table, whose arrays have the lengths of the type
pub turning-back-and-over : (t : Table) → Sized t.marks t.amounts → turned (turned_back t) ≡ t
turning-back-and-over = back-and-over

module _ (b : Book) (h : places b ≡ 256) where
  -- "every call answers as on the old order": whatever is said of the table's book is said of b: ..
  pub answers-as : {X : Type 0} (f : Book → X) → f (turned_back (turned b)) ≡ f b
  answers-as f = ap f (over-and-back b h)

  -- .. the test of a sound book, ..
  pub sound-test-as : sound_b (turned_back (turned b)) ≡ sound_b b
  sound-test-as = answers-as sound_b

  -- .. a standing, ..
  pub standing-as : (number : ℕ) → standing_of (turned_back (turned b)) number ≡ standing_of b number
  standing-as number = answers-as (λ c. standing_of c number)

  -- .. an evening sum, ..
  pub evening-sum-as : (amount : Amount) → evening_of (turned_back (turned b)) amount ≡ evening_of b amount
  evening-sum-as amount = answers-as (λ c. evening_of c amount)

  -- .. the list of needs, its refusal and its room; ..
  pub needs-as : (room : List ℕ)
      → (needs_refusal (turned_back (turned b)) room ≡ needs_refusal b room) × (needs_room (turned_back (turned b)) room ≡ needs_room b room)
  needs-as room = (answers-as (λ c. needs_refusal c room), answers-as (λ c. needs_room c room))

  -- .. taking over, its refusal and its book; ..
  pub take-over-as : (take_over_refusal (turned_back (turned b)) ≡ take_over_refusal b) × (turned (taken_over (turned_back (turned b))) ≡ turned (taken_over b))
  take-over-as = (answers-as take_over_refusal, answers-as (λ c. turned (taken_over c)))

  -- .. an archiving, its answer and its room; ..
  pub archive-as : (room : List ℕ) → (archived_of (turned_back (turned b)) room ≡ archived_of b room) × (archive_room (turned_back (turned b)) room ≡ archive_room b room)
  archive-as room = (answers-as (λ c. archived_of c room), answers-as (λ c. archive_room c room))

  -- "and leaves the old one's book, turned over": after a record, ..
  pub carry-out-leaves : (r : Record)
      → over_done (step_of (turned_back (turned b)) r) ≡ record { answer = (step_of b r).answer; table = turned (step_of b r).book }
  carry-out-leaves r = answers-as (λ c. over_done (step_of c r))

  -- .. after what stands at a place of a piece, ..
  pub carry-out-next-leaves : (piece : List ℕ) (place : ℕ)
      → over_next (next_of (turned_back (turned b)) piece place)
      ≡ record { answer = (next_of b piece place).answer; table = turned (next_of b piece place).book; place = (next_of b piece place).place }
  carry-out-next-leaves piece place = answers-as (λ c. over_next (next_of c piece place))

  -- .. and after the records of a piece; ..
  pub day-leaves : (piece : List ℕ) (most : ℕ) → over_ran (ran_of (turned_back (turned b)) piece most) ≡ over_ran (ran_of b piece most)
  day-leaves piece most = answers-as (λ c. over_ran (ran_of c piece most))

  -- .. the numbers of their lines are the same, ..
  pub day-with-numbers-as : (piece : List ℕ) (most : ℕ) (room : List ℕ) → numbers_room (turned_back (turned b)) piece most room ≡ numbers_room b piece most room
  day-with-numbers-as piece most room = answers-as (λ c. numbers_room c piece most room)

  -- .. and so are a close-out's answer and room.
  pub close-out-as : (losses room : List ℕ)
      → (closed_of (turned_back (turned b)) losses room ≡ closed_of b losses room) × (room_of (turned_back (turned b)) losses room ≡ room_of b losses room)
  close-out-as losses room = (answers-as (λ c. closed_of c losses room), answers-as (λ c. room_of c losses room))
