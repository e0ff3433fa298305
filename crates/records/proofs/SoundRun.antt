-- A run leaves a sound book, counts the records that it answered, and is one `carry_out_next` after the other.
use mathlib.Core.Bool.{true}
use mathlib.Core.List.{List}
use mathlib.Core.Path.{◌≡◌, refl, sym, ap, ◌∙◌}
use Prim.Native.Nat.{ℕ, zero, suc, ◌+◌}
use native.Mathlib.Nat.{zero-add}
use native.Mathlib.Omega.{arith}
use lib.ListN.{length}
use Rattle.sums.proofs.Choices.{pick_yes}
use Rattle.rows.specs.declared.Book.{Book}
use Rattle.book.specs.Sound.{sound_b}
use Rattle.book.specs.Facts.{Sound}
use Rattle.book.proofs.SoundTest.{sound←}
use Rattle.dayfile.specs.declared.Record.{Record}
use Rattle.dayfile.specs.declared.Found.{Found}
use Rattle.dayfile.specs.declared.Found.TheVariants.{End as NoBytes, Cut as TooFew, Whole}
use Rattle.dayfile.specs.Reading.{found_at}
use Rattle.rules.specs.Numbered.{placed}
use Rattle.rules.proofs.SoundChange.{change-sound}
use Rattle.desk.specs.Answers.{carried_in}
use Rattle.desk.specs.Steps.{step_of, on_found, next_of}
use Rattle.desk.proofs.Doing.{sound-next}
use Rattle.records.specs.declared.Closing.TheVariants.{Unsound}
use Rattle.records.specs.Runs.{ended_with, stopped, onward, run_of, ran_of}
use Rattle.records.specs.LineNumbers.{answering, answers_of, carried_of}
use Rattle.records.proofs.NumbersPut.{ran-sound}

pub step-sound : (b : Book) (r : Record) → Sound b → Sound (step_of b r).book
unfolding step_of
step-sound b r s = change-sound b (placed b r) s

module _ (s : List ℕ) where
  stopped-book : (f : Found) (b : Book) (place read done : ℕ) → (stopped f b place read done).book ≡ b
  stopped-book NoBytes b place read done = refl
  stopped-book TooFew b place read done = refl
  stopped-book (Whole r next) b place read done = refl

  pub run_sound : (n : ℕ) (b : Book) (place read done : ℕ) → Sound b → Sound (run_of s n b place read done).book
  unfolding run_of
  run_sound zero b place read done h = rw (stopped-book (found_at s place) b place read done) h
  run_sound (suc n) b place read done h = by (found_at s place) (λ c p r d g. run_sound n c p r d g)
    where
      by : (f : Found) → ((c : Book) (p r d : ℕ) → Sound c → Sound (run_of s n c p r d).book) → Sound (onward (run_of s n) f b place read done).book
      by NoBytes go = h
      by TooFew go = h
      by (Whole r next) go = go _ _ _ _ (step-sound b r h)

  stopped-counts : (f : Found) (b : Book) (place read done : ℕ) → ((stopped f b place read done).read ≡ read) × ((stopped f b place read done).done ≡ done)
  stopped-counts NoBytes b place read done = (refl, refl)
  stopped-counts TooFew b place read done = (refl, refl)
  stopped-counts (Whole r next) b place read done = (refl, refl)

  -- the two counts are of the records' answers
  pub run-counts : (n : ℕ) (b : Book) (place read done : ℕ)
      → ((run_of s n b place read done).read ≡ read + length (answers_of s n b place))
      × ((run_of s n b place read done).done ≡ done + carried_of (answers_of s n b place))
  unfolding run_of answers_of carried_of
  run-counts zero b place read done =
      let h = stopped-counts (found_at s place) b place read done in
      (omega (arith, h.0), omega (arith, h.1))
  run-counts (suc n) b place read done = by (found_at s place) (λ c p r d. run-counts n c p r d)
    where
      by : (f : Found)
          → ((c : Book) (p r d : ℕ) → ((run_of s n c p r d).read ≡ r + length (answers_of s n c p)) × ((run_of s n c p r d).done ≡ d + carried_of (answers_of s n c p)))
          → ((onward (run_of s n) f b place read done).read ≡ read + length (answering (answers_of s n) f b))
          × ((onward (run_of s n) f b place read done).done ≡ done + carried_of (answering (answers_of s n) f b))
      by NoBytes go = (omega arith, omega arith)
      by TooFew go = (omega arith, omega arith)
      by (Whole r next) go =
          let h = go (step_of b r).book next (read + 1) (done + carried_in (step_of b r).answer.outcome) in
          (omega (arith, h.0), omega (arith, h.1))

  -- one record of a run is what `carry_out_next` does at that place
  pub run-by-next : (n : ℕ) (b : Book) (place read done : ℕ) (r : Record) (next : ℕ) → Sound b → found_at s place ≡ Whole r next
      → run_of s (suc n) b place read done
      ≡ run_of s n (next_of b s place).book (next_of b s place).place (read + 1) (done + carried_in (next_of b s place).answer.outcome)
  unfolding run_of
  run-by-next n b place read done r next h f =
      let e = sound-next b s place (Whole r next) (sound← b h) f in
      ap (λ x. onward (run_of s n) x b place read done) f
      ∙ ap (λ x. run_of s n x.book x.place (read + 1) (done + carried_in x.answer.outcome)) e

-- a book that was sound is sound after any bytes, and one that wasn't is the same
pub ran-keeps : (b : Book) (s : List ℕ) (most : ℕ) → Sound b → Sound (ran_of b s most).book
unfolding ran_of
ran-keeps b s most h =
    rw (pick_yes (sound_b b) (run_of s most b 0 0 0) (ended_with Unsound b 0 0 0) (sound← b h)) (run_sound s most b 0 0 0 h)

-- "records read, and those of them with refusal 0": the public call's two counts
pub ran-counts : (b : Book) (s : List ℕ) (most : ℕ) → sound_b b ≡ true
    → ((ran_of b s most).read ≡ length (answers_of s most b 0)) × ((ran_of b s most).done ≡ carried_of (answers_of s most b 0))
ran-counts b s most e =
    let h = run-counts s most b 0 0 0 in
    let r = ran-sound b s most e in
    (sym (ap (λ x. x.read) r) ∙ h.0 ∙ zero-add _, sym (ap (λ x. x.done) r) ∙ h.1 ∙ zero-add _)

-- what stands at a place, whatever it is, leaves a sound book sound
pub next-sound : (b : Book) (s : List ℕ) (at : ℕ) → Sound b → Sound (next_of b s at).book
next-sound b s at h = rw (← sound-next b s at (found_at s at) (sound← b h) refl) (keeps (found_at s at))
  where
    keeps : (f : Found) → Sound (on_found b at f).book
    keeps NoBytes = h
    keeps TooFew = h
    keeps (Whole r next) = step-sound b r h
