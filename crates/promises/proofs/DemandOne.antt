-- Demand 1. Every call ends and nothing makes it fail: that is what a proved function with no `requires` says, for every
-- value of its arguments' types. Below: what is bad is refused with a number, in document 01's order, and what each refusal
-- leaves.
use mathlib.Core.Bool.{true, false}
use mathlib.Core.List.{List}
use mathlib.Core.Logic.{◌⊎◌}
use mathlib.Core.Path.{◌≡◌, refl, sym, ap}
use Prim.Native.Nat.{ℕ, zero, suc, ◌+◌, ◌≤◌, ◌<◌}
use lib.ListN.{length, get_or}
use Rattle.sums.specs.Choice.{unless_refused}
use Rattle.rows.specs.declared.Book.{Book}
use Rattle.rows.specs.Rows.{place_of, row_at, mode_at, view}
use Rattle.book.specs.Sound.{sound_b}
use Rattle.book.specs.Asked.{standing_refusals, standing_refusal, no_figures, figures_of, standing_of}
use Rattle.book.specs.NeedsListed.{needs_refusals, needs_refusal, all_needs, needs_room}
use Rattle.book.proofs.StandingRefusals.{standing-number}
use Rattle.dayfile.specs.declared.Record.{Record}
use Rattle.dayfile.specs.declared.Found.TheVariants.{End as NoBytes, Cut as TooFew, Whole}
use Rattle.dayfile.specs.Records.{faults, fault_of}
use Rattle.dayfile.specs.declared.Wrote.TheVariants.{Refused as NotWritten}
use Rattle.dayfile.specs.Reading.{size_of, found_at, read_at, number_found, number_of, refusal_at, reader_refusal}
use Rattle.dayfile.specs.Written.{writer_refusals, writer_refusal, wrote_of, room_after, refusal_wrote}
use Rattle.dayfile.proofs.Numbers.{found_number, read_number}
use Rattle.dayfile.proofs.Answers.{wrote-refusal, refused-writer-leaves-room as writer-leaves}
use Rattle.dayfile.proofs.Places.{cut_at, at_cut}
use Rattle.rules.specs.Effects.{moved_on}
use Rattle.rules.specs.Numbered.{verdict_of}
use Rattle.desk.specs.declared.Outcome.TheVariants.{Refused, End}
use Rattle.desk.specs.Answers.{refusal_in, nobody}
use Rattle.desk.specs.Steps.{step_of, next_of}
use Rattle.desk.proofs.Doing.{unsound-next, sound-next}
use Rattle.desk.proofs.Effect.{answer-number, early-refusal, later-refusal, number-of-table}
use Rattle.desk.proofs.Lasting.{refusal-keeps}
use Rattle.records.specs.declared.Closing.TheVariants.{Unsound}
use Rattle.records.specs.Runs.{ended_with, ran_of}
use Rattle.records.specs.LineNumbers.{numbers_room}
use Rattle.records.proofs.NumbersPut.{ran-unsound, numbers-unsound}
use Rattle.closeout.specs.Closing.{loss_at, no_total, close_out_refusals, close_out_refusal, closed_of, room_of}
use Rattle.closeout.specs.Columns.{total}
use Rattle.closeout.proofs.Carried.{refused-total, refused-untouched}
use Rattle.promises.specs.InOrder.{InOrder}
use Rattle.promises.proofs.Exactly.{in_order}

-- The answer to a record names the number of document 01's table (which number, and when: `given-exactly-when` of DemandTwo).
pub answer-names-the-number : (b : Book) (r : Record) → refusal_in (step_of b r).answer.outcome ≡ verdict_of b r
answer-names-the-number = answer-number

-- That number is 0 to 14, or 17 (K5): 15 and 16 are the writer's and the close-out's.
pub a-number-of-the-table : (b : Book) (r : Record) → (verdict_of b r ≤ 14) ⊎ (verdict_of b r ≡ 17)
a-number-of-the-table = number-of-table

-- A refused record changes no amount and no account, and gives no number.
pub a-refusal-changes-no-amount : (b : Book) (r : Record) → 0 < verdict_of b r
    → ((i : ℕ) → row_at (step_of b r).book i ≡ row_at b i) × ((step_of b r).book.count ≡ b.count) × ((step_of b r).book.next ≡ b.next)
a-refusal-changes-no-amount = refusal-keeps

-- Refusals 1 and 3 change nothing at all.
pub refusals-up-to-3-change-nothing : (b : Book) (r : Record) → 0 < verdict_of b r → verdict_of b r ≤ 3 → (step_of b r).book ≡ b
refusals-up-to-3-change-nothing = early-refusal

-- Refusals 4 to 14 and 17 move the serial on by one and change nothing else.
pub refusals-from-4-move-the-serial : (b : Book) (r : Record) → 3 < verdict_of b r → (step_of b r).book ≡ moved_on b
refusals-from-4-move-the-serial = later-refusal

-- From a place of a file:
module _ (b : Book) (piece : List ℕ) (place : ℕ) where
  -- An unsound book is answered with 1, even at the end; the answer names nobody, and book and place stay.
  pub unsound-leaves-all : sound_b b ≡ false → next_of b piece place ≡ record { answer = nobody (Refused 1); book = b; place = place }
  unsound-leaves-all e = sym (unsound-next b piece place e)

  -- Too few bytes are answered with 2; the answer names nobody, and book and place stay.
  pub cut-leaves-all : sound_b b ≡ true → found_at piece place ≡ TooFew → next_of b piece place ≡ record { answer = nobody (Refused 2); book = b; place = place }
  cut-leaves-all e f = sym (sound-next b piece place TooFew e f)

  -- Where no bytes are left the answer is the end, which is no refusal; it names nobody, and book and place stay.
  pub end-leaves-all : sound_b b ≡ true → found_at piece place ≡ NoBytes → next_of b piece place ≡ record { answer = nobody End; book = b; place = place }
  end-leaves-all e f = sym (sound-next b piece place NoBytes e f)

  -- A whole record is answered as the same record handed over as values, and the place moves past it, whatever the answer: after
  -- refusal 3 too.
  pub a-whole-record-moves-the-place : (r : Record) (next : ℕ) → sound_b b ≡ true → found_at piece place ≡ Whole r next
      → next_of b piece place ≡ record { answer = (step_of b r).answer; book = (step_of b r).book; place = next }
  a-whole-record-moves-the-place r next e f = sym (sound-next b piece place (Whole r next) e f)

-- The records of a piece, at an unsound book: the closing word 1, place 0, counts of 0, the same book; ..
pub unsound-day : (b : Book) (piece : List ℕ) (most : ℕ) → sound_b b ≡ false → ran_of b piece most ≡ ended_with Unsound b 0 0 0
unsound-day b piece most e = sym (ran-unsound b piece most e)

-- .. and the room lent for the records' numbers stays as it was.
pub unsound-day-leaves-room : (b : Book) (piece : List ℕ) (most : ℕ) (room : List ℕ) → sound_b b ≡ false → numbers_room b piece most room ≡ room
unsound-day-leaves-room b piece most room e = sym (numbers-unsound b piece most room e)

module _ (piece : List ℕ) (place : ℕ) where
  -- Bytes are too few (refusal 2) exactly when some are left, but not as many as the second mark byte asks for. Where one byte
  -- is left there is no second mark byte: 0 stands for it, and six bytes are asked for.
  pub too-few-exactly-when : (found_at piece place ≡ TooFew → (place < length piece) × (length piece < place + size_of (get_or piece (place + 1) 0)))
      × ((place < length piece) × (length piece < place + size_of (get_or piece (place + 1) 0)) → found_at piece place ≡ TooFew)
  too-few-exactly-when = (cut_at piece place, λ h. at_cut piece place h.0 h.1)

  -- What is found at a place names 2 exactly then, ..
  pub found-names-2 : number_found (found_at piece place) ≡ refusal_at piece place
  found-names-2 = found_number piece place

  -- .. and so does what the reader gives there; for a whole record it names the first of 4, 5, 6 that applies, or 0.
  pub reader-names-the-number : number_of (read_at piece place) ≡ reader_refusal (found_at piece place)
  reader-names-the-number = read_number piece place

-- The writer's answer names the first of 4, 5, 6 and 15 that applies, or 0.
pub writer-names-the-number : (r : Record) (room : List ℕ) → refusal_wrote (wrote_of r room) ≡ writer_refusal r room
writer-names-the-number = wrote-refusal

-- A writer that refuses leaves its room untouched.
pub refused-writer-leaves-room : (r : Record) (room : List ℕ) (n : ℕ) → wrote_of r room ≡ NotWritten n → room_after r room ≡ room
refused-writer-leaves-room = writer-leaves

-- A standing names the first of 1 and 7 that applies, or 0.
pub standing-names-the-number : (b : Book) (account : ℕ) → (standing_of b account).refusal ≡ standing_refusal b account
standing-names-the-number = standing-number

-- A refused standing has all five figures 0, and shows the mode off.
pub refused-standing-is-zero : (b : Book) (account n : ℕ) → standing_refusal b account ≡ suc n → standing_of b account ≡ no_figures (suc n)
unfolding standing_of
refused-standing-is-zero b account n e = ap (λ k. unless_refused k (figures_of (view b) (mode_at b (place_of b account)) (place_of b account)) no_figures) e

-- The list of needs leaves its room untouched where it refuses.
pub refused-needs-leave-room : (b : Book) (room : List ℕ) (n : ℕ) → needs_refusal b room ≡ suc n → needs_room b room ≡ room
unfolding needs_room
refused-needs-leave-room b room n e = ap (λ k. unless_refused k (all_needs b) (λ m. room)) e

module _ (b : Book) (losses room : List ℕ) where
  -- A close-out names the first of 1, 15 and 16 that applies, or 0.
  pub close-out-names-the-number : (closed_of b losses room).refusal ≡ close_out_refusal b losses room
  unfolding closed_of
  close-out-names-the-number = by (close_out_refusal b losses room)
    where
      by : (n : ℕ) → (unless_refused n (record { refusal = 0; total = total (view b) (loss_at losses) }) no_total).refusal ≡ n
      by zero = refl
      by (suc n) = refl

  -- A refused close-out gives a total of 0.
  pub refused-close-out-totals-0 : (n : ℕ) → close_out_refusal b losses room ≡ suc n → (closed_of b losses room).total ≡ 0
  refused-close-out-totals-0 = refused-total b losses room

  -- A refused close-out leaves its room untouched.
  pub refused-close-out-leaves-room : (n : ℕ) → close_out_refusal b losses room ≡ suc n → room_of b losses room ≡ room
  refused-close-out-leaves-room = refused-untouched b losses room

-- Each number in its order: it is given exactly when its test holds and no earlier line's does. For a record: `given-exactly-when` of DemandTwo.

-- A standing's 1 and 7.
pub standing-in-its-order : (b : Book) (account k : ℕ) → 0 < k → InOrder (standing_refusal b account) k (standing_refusals b account)
unfolding standing_refusal
standing-in-its-order b account = in_order (standing_refusals b account) refl

-- The list of needs' 1 and 15.
pub needs-in-their-order : (b : Book) (room : List ℕ) (k : ℕ) → 0 < k → InOrder (needs_refusal b room) k (needs_refusals b room)
unfolding needs_refusal
needs-in-their-order b room = in_order (needs_refusals b room) refl

-- The reader's 4, 5 and 6.
pub reader-in-its-order : (r : Record) (k : ℕ) → 0 < k → InOrder (fault_of r) k (faults r)
unfolding fault_of
reader-in-its-order r = in_order (faults r) refl

-- The writer's 4, 5, 6 and 15.
pub writer-in-its-order : (r : Record) (room : List ℕ) (k : ℕ) → 0 < k → InOrder (writer_refusal r room) k (writer_refusals r room)
unfolding writer_refusal
writer-in-its-order r room = in_order (writer_refusals r room) refl

-- The close-out's 1, 15 (losses, then room) and 16.
pub close-out-in-its-order : (b : Book) (losses room : List ℕ) (k : ℕ) → 0 < k → InOrder (close_out_refusal b losses room) k (close_out_refusals b losses room)
unfolding close_out_refusal
close-out-in-its-order b losses room = in_order (close_out_refusals b losses room) refl
