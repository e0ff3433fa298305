-- The library for C (include/loft.h): each exported function admits one result only, and what it leaves in a book's bytes is the written form of what the public call gives.
use mathlib.Core.Bool.{true}
use mathlib.Core.List.{List}
use mathlib.Core.Path.{◌≡◌, refl, sym, ap, ◌∙◌}
use Prim.Native.Nat.{ℕ}
use borrow.Author.Tests.{eq-eqb}
use lib.ListN.{length}
use Rattle.sums.proofs.Choices.{and-join}
use Rattle.table.specs.declared.Table.{Table}
use Rattle.table.specs.Words.{turned_back}
use Rattle.book.specs.Sound.{sound_b}
use Rattle.bookfile.specs.Facts.{Fits, is_two}
use Rattle.bookfile.specs.Reading.{book_in}
use Rattle.bookfile.specs.Written.{written_of}
use Rattle.bookfile.proofs.RoundTrip.{read-written, written-long}
use Rattle.dayfile.specs.declared.Record.{Record}
use Rattle.desk.specs.Over.{over_done}
use Rattle.desk.specs.Steps.{step_of}
use Rattle.records.specs.Runs.{ran_of}
use Rattle.records.specs.LineNumbers.{room_for}
use Rattle.run.specs.Over.{over_ran}
use Rattle.lent.specs.Held.{sound_in, lent_refusal}
use Rattle.embedded.specs.Carrying.{are_fit, carried_book}
use Rattle.embedded_day.specs.Day.{day_refusal, day_book}
use Rattle.embedded.proofs as embedded
use Rattle.embedded.specs.contracts as embedded_contracts
use Rattle.embedded_day.proofs as embedded_day
use Rattle.embedded_day.specs.contracts as embedded_day_contracts
use Rattle.lent.proofs.Lent.{read-tells, two-sound, none-refused}
use Rattle.lent.proofs.Refused.{given}
use Rattle.promises.specs.OneResult.{OneResultOnly}

-- ---- one result only

-- 0 or 15, and the bytes of a fresh book
pub of-embedded-loft-fresh : OneResultOnly embedded_contracts.loft_fresh.ended embedded.loft_fresh.Reads.Learnt
of-embedded-loft-fresh κs a x y u v p q = (p.0 ∙ sym q.0, λ i. ((p.1 ∙ sym q.1) i, tt))

-- whether bytes are a sound book
pub of-embedded-loft-is-sound : OneResultOnly embedded_contracts.loft_is_sound.ended embedded.loft_is_sound.Reads.Learnt
of-embedded-loft-is-sound κs a x y u v p q = (p ∙ sym q, refl)

-- the refusal or 0, and the figures
pub of-embedded-loft-standing : OneResultOnly embedded_contracts.loft_standing.ended embedded.loft_standing.Reads.Learnt
of-embedded-loft-standing κs a x y u v p q = (p.0 ∙ sym q.0, λ i. (tt, (tt, ((p.1 ∙ sym q.1) i, tt))))

-- the refusal or 0, the bytes and the answer
pub of-embedded-loft-carry-out : OneResultOnly embedded_contracts.loft_carry_out.ended embedded.loft_carry_out.Reads.Learnt
of-embedded-loft-carry-out κs a x y u v p q = (p.0 ∙ sym q.0, λ i. ((p.1.0 ∙ sym q.1.0) i, (tt, (tt, (tt, (tt, (tt, ((p.1.1 ∙ sym q.1.1) i, tt))))))))

-- the refusal or 0, the bytes, the answers and what is told
pub of-embedded-day-loft-day : OneResultOnly embedded_day_contracts.loft_day.ended embedded_day.loft_day.Reads.Learnt
of-embedded-day-loft-day κs a x y u v p q = (p.0 ∙ sym q.0, λ i. ((p.1.0 ∙ sym q.1.0) i, (tt, (tt, ((p.1.1.0 ∙ sym q.1.1.0) i, ((p.1.1.1 ∙ sym q.1.1.1) i, tt))))))

-- the refusal or 0, and the amount
pub of-embedded-loft-most : OneResultOnly embedded_contracts.loft_most.ended embedded.loft_most.Reads.Learnt
of-embedded-loft-most κs a x y u v p q = (p.0 ∙ sym q.0, λ i. (tt, (tt, (tt, (tt, ((p.1 ∙ sym q.1) i, tt))))))

-- the refusal or 0, and the needs
pub of-embedded-loft-needs : OneResultOnly embedded_contracts.loft_needs.ended embedded.loft_needs.Reads.Learnt
of-embedded-loft-needs κs a x y u v p q = (p.0 ∙ sym q.0, λ i. (tt, ((p.1 ∙ sym q.1) i, tt)))

-- the refusal or 0, the amounts and the total
pub of-embedded-loft-close-out : OneResultOnly embedded_contracts.loft_close_out.ended embedded.loft_close_out.Reads.Learnt
of-embedded-loft-close-out κs a x y u v p q = (p.0 ∙ sym q.0, λ i. (tt, (tt, ((p.1.0 ∙ sym q.1.0) i, ((p.1.1 ∙ sym q.1.1) i, tt)))))

-- the refusal or 0, and the record's bytes
pub of-embedded-loft-margin : OneResultOnly embedded_contracts.loft_margin.ended embedded.loft_margin.Reads.Learnt
of-embedded-loft-margin κs a x y u v p q = (p.0 ∙ sym q.0, λ i. (tt, (tt, (tt, (tt, (tt, (tt, (tt, ((p.1 ∙ sym q.1) i, tt)))))))))

-- the refusal or 0
pub of-embedded-loft-statement : OneResultOnly embedded_contracts.loft_statement.ended embedded.loft_statement.Reads.Learnt
of-embedded-loft-statement κs a x y u v p q = (p ∙ sym q, refl)

-- the refusal or 0, the bytes, the entries and how many moved
pub of-embedded-loft-archive : OneResultOnly embedded_contracts.loft_archive.ended embedded.loft_archive.Reads.Learnt
of-embedded-loft-archive κs a x y u v p q = (p.0 ∙ sym q.0, λ i. ((p.1.0 ∙ sym q.1.0) i, ((p.1.1.0 ∙ sym q.1.1.0) i, ((p.1.1.1 ∙ sym q.1.1.1) i, tt))))

-- the refusal or 0, and the bytes
pub of-embedded-loft-take-over : OneResultOnly embedded_contracts.loft_take_over.ended embedded.loft_take_over.Reads.Learnt
of-embedded-loft-take-over κs a x y u v p q = (p.0 ∙ sym q.0, λ i. ((p.1 ∙ sym q.1) i, tt))

-- the refusal or 0, the room and the length
pub of-embedded-loft-write-record : OneResultOnly embedded_contracts.loft_write_record.ended embedded.loft_write_record.Reads.Learnt
of-embedded-loft-write-record κs a x y u v p q = (p.0 ∙ sym q.0, λ i. (tt, (tt, (tt, (tt, (tt, ((p.1.0 ∙ sym q.1.0) i, ((p.1.1 ∙ sym q.1.1) i, tt))))))))

-- the refusal, 255 or 0, and the numbers
pub of-embedded-loft-read-record : OneResultOnly embedded_contracts.loft_read_record.ended embedded.loft_read_record.Reads.Learnt
of-embedded-loft-read-record κs a x y u v p q = (p.0 ∙ sym q.0, λ i. (tt, (tt, ((p.1 ∙ sym q.1) i, tt))))

-- ---- what is left in the bytes of a sound book, for every value of the type (`bookfile.Facts.Fits`)

module _ (t : Table) (f : Fits t) where
  two : is_two (written_of t) ≡ true
  two = sym (read-tells (written_of t) (written-long t f).0).0 ∙ ap (λ h. h.is_book) (read-written t f)

  back : book_in (written_of t) ≡ t
  back = sym ((read-tells (written_of t) (written-long t f).0).1 (ap (λ h. h.is_book) (read-written t f))) ∙ ap (λ h. h.table) (read-written t f)

  module _ (s : sound_b (turned_back t) ≡ true) where
    sound : sound_in (written_of t) ≡ true
    sound = two-sound (written_of t) two ∙ ap (λ u. sound_b (turned_back u)) back ∙ s

    -- Carrying out a record on a book's bytes leaves the written form of the book that the desk gives.
    pub a-record-in-bytes : (r : Record) (amounts answer : List ℕ) → length amounts ≡ 6 → length answer ≡ 5
        → carried_book (written_of t) (are_fit amounts answer) r ≡ written_of (over_done (step_of (turned_back t) r)).table
    unfolding carried_book
    a-record-in-bytes r amounts answer six five =
        let z = ap (lent_refusal (written_of t)) (and-join (eq-eqb _ _ six) (eq-eqb _ _ five)) ∙ none-refused (written_of t) sound in
        sym (given _ z (ap (λ u. written_of (over_done (step_of (turned_back u) r)).table) (sym back)))

    -- Carrying out a day on a book's bytes leaves the written form of the book that the run gives.
    pub a-day-in-bytes : (piece : List ℕ) (most : ℕ) (answers told : List ℕ) → length told ≡ 4
        → day_book (written_of t) piece most answers told ≡ written_of (over_ran (ran_of (turned_back t) piece (room_for most answers))).table
    unfolding day_book day_refusal
    a-day-in-bytes piece most answers told four =
        let z = ap (lent_refusal (written_of t)) (eq-eqb _ _ four) ∙ none-refused (written_of t) sound in
        sym (given _ z (ap (λ u. written_of (over_ran (ran_of (turned_back u) piece (room_for most answers))).table) (sym back)))
