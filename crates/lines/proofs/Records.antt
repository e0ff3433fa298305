-- The lines of the numbers in the room are the records' lines, one for each record read.
use mathlib.Core.Bool.{Bool, true, false}
use mathlib.Core.List.{List, [], ◌∷◌, ◌++◌, append_assoc, append-nil}
use mathlib.Core.Path.{◌≡◌, refl, sym, ap, ◌∙◌}
use Prim.Native.Nat.{ℕ, zero, suc, ◌+◌, ◌*◌, ◌≤◌}
use native.Mathlib.Nat.{zero-add}
use native.Mathlib.Omega.{arith}
use lib.ListN.{length, drop, get_or}
use lib.Seq.{get_or-drop}
use Rattle.sums.specs.Choice.{pick}
use Rattle.rows.specs.declared.Book.{Book}
use Rattle.book.specs.Sound.{sound_b}
use Rattle.dayfile.specs.declared.Found.{Found}
use Rattle.dayfile.specs.declared.Found.TheVariants.{End as NoBytes, Cut as TooFew, Whole}
use Rattle.dayfile.specs.Reading.{found_at}
use Rattle.desk.specs.declared.Answer.{Answer}
use Rattle.desk.specs.Steps.{step_of}
use Rattle.records.specs.declared.Closing.TheVariants.{Unsound}
use Rattle.run.specs.declared.Ended.{Ended}
use Rattle.run.specs.Over.{over_ran}
use Rattle.records.specs.Runs.{ended_with, run_of, ran_of}
use Rattle.records.specs.LineNumbers.{answering, answers_of, numbers_of_line, numbers_of_lines, room_for, numbers_room}
use Rattle.records.proofs.SoundRun.{run-counts}
use Rattle.lines.specs.Lines.{line_of, lines_of}
use Rattle.sums.specs.Room.{at_start}
use Rattle.lines.specs.Texts.{text_of, with_text, lined_of}
use Rattle.text.specs.Numbers.{line_at, lines_to}
use Rattle.text.specs.Inner.{Puts}
use Rattle.text.proofs.Puts.{puts-at-start}

pub answers-most : (s : List ℕ) (n : ℕ) (b : Book) (place : ℕ) → length (answers_of s n b place) ≤ n
unfolding answers_of
answers-most s zero b place = omega arith
answers-most s (suc n) b place = by (found_at s place) (answers-most s n)
  where
    by : (f : Found) → ((b' : Book) (next : ℕ) → length (answers_of s n b' next) ≤ n) → length (answering (answers_of s n) f b) ≤ suc n
    by NoBytes go = omega arith
    by TooFew go = omega arith
    by (Whole r next) go = omega (arith, go (step_of b r).book next)

-- the numbers from the second record on
line-later : (numbers : List ℕ) (i : ℕ) → line_at numbers (suc i) ≡ line_at (drop 5 numbers) i
line-later numbers i =
    let at : (k : ℕ) → get_or numbers (5 * suc i + k) 0 ≡ get_or (drop 5 numbers) (5 * i + k) 0 =
    λ (k : ℕ). let e : 5 * suc i + k ≡ 5 + (5 * i + k) = omega arith in ap (λ (j : ℕ). get_or numbers j 0) e ∙ sym (get_or-drop 5 numbers (5 * i + k) 0) in
    let first : get_or numbers (5 * suc i) 0 ≡ get_or (drop 5 numbers) (5 * i) 0 =
    let e : 5 * suc i ≡ 5 + 5 * i = omega arith in ap (λ (j : ℕ). get_or numbers j 0) e ∙ sym (get_or-drop 5 numbers (5 * i) 0) in
    rw (first, at 1, at 2, at 3, at 4)

lines-first : (numbers : List ℕ) (n : ℕ) → lines_to numbers (suc n) ≡ line_at numbers 0 ++ lines_to (drop 5 numbers) n
unfolding lines_to
lines-first numbers zero = sym (append-nil (line_at numbers 0))
lines-first numbers (suc n) =
    ap (λ (l : List ℕ). l ++ line_at numbers (suc n)) (lines-first numbers n)
    ∙ ap (λ (l : List ℕ). (line_at numbers 0 ++ lines_to (drop 5 numbers) n) ++ l) (line-later numbers n)
    ∙ append_assoc (line_at numbers 0) (lines_to (drop 5 numbers) n) (line_at (drop 5 numbers) n)

lines_none : (numbers : List ℕ) → lines_to numbers 0 ≡ []
unfolding lines_to
lines_none numbers = refl

pub lines-of-numbers : (answers : List Answer) (rest : List ℕ) → lines_to (numbers_of_lines answers ++ rest) (length answers) ≡ lines_of answers
unfolding numbers_of_lines numbers_of_line lines_of line_of
lines-of-numbers [] rest = lines_none (numbers_of_lines [] ++ rest)
lines-of-numbers (a ∷ answers) rest =
    lines-first (numbers_of_lines (a ∷ answers) ++ rest) (length answers)
    ∙ ap (λ (l : List ℕ). line_of a ++ l) (lines-of-numbers answers rest)

module _ (b : Book) (s : List ℕ) (n : ℕ) where
  pub read-most : (ran_of b s n).read ≤ n
  unfolding ran_of pick
  read-most = by (sound_b b)
    where
      by : (t : Bool) → (pick t (run_of s n b 0 0 0) (ended_with Unsound b 0 0 0)).read ≤ n
      by true = omega (arith, (run-counts s n b 0 0 0).0, answers-most s n b 0)
      by false = omega arith

  -- the text of the room in which the run put its records' numbers
  pub text-of-numbers : (numbers : List ℕ) → n ≡ room_for n numbers → lines_to (numbers_room b s n numbers) (ran_of b s n).read ≡ text_of b s n
  unfolding numbers_room ran_of text_of pick
  text-of-numbers numbers e = by (sound_b b)
    where
      shown : List ℕ
      shown = numbers_of_lines (answers_of s (room_for n numbers) b 0)

      by : (t : Bool) → lines_to (pick t (shown ++ drop (length shown) numbers) numbers) (pick t (run_of s n b 0 0 0) (ended_with Unsound b 0 0 0)).read
          ≡ pick t (lines_of (answers_of s n b 0)) []
      by true =
          ap (λ m. lines_to (numbers_of_lines (answers_of s m b 0) ++ drop (length (numbers_of_lines (answers_of s m b 0))) numbers) (run_of s n b 0 0 0).read) (sym e)
          ∙ ap (lines_to (numbers_of_lines (answers_of s n b 0) ++ drop (length (numbers_of_lines (answers_of s n b 0))) numbers)) ((run-counts s n b 0 0 0).0 ∙ zero-add _)
          ∙ lines-of-numbers (answers_of s n b 0) (drop (length (numbers_of_lines (answers_of s n b 0))) numbers)
      by false = lines_none numbers

-- what the call leaves, by what the run and the lines leave
pub lines_left : (b : Book) (s : List ℕ) (n : ℕ) (numbers₀ : List ℕ) {numbers room room' : List ℕ} {ran : Ended} {text : ℕ} → n ≡ room_for n numbers₀
    → ran ≡ over_ran (ran_of b s (room_for n numbers₀)) → numbers ≡ numbers_room b s n numbers₀ → Puts room 0 (lines_to numbers ran.read) room' text
    → (with_text ran text ≡ lined_of b s n) × (room' ≡ at_start (text_of b s n) room)
unfolding lined_of
lines_left b s n numbers₀ {numbers} {room} {room'} {ran} {text} m er et f =
    let r : ran ≡ over_ran (ran_of b s n) = er ∙ ap (λ k. over_ran (ran_of b s k)) (sym m) in
    let t : lines_to numbers ran.read ≡ text_of b s n =
    ap (λ x. lines_to x ran.read) et ∙ ap (λ x. lines_to (numbers_room b s n numbers₀) x.read) r ∙ text-of-numbers b s n numbers₀ m in
    let o = puts-at-start f in (
      ap (λ x. with_text x text) r ∙ ap (with_text (over_ran (ran_of b s n))) (o.0 ∙ ap length t),
      o.1 ∙ ap (λ x. at_start x room) t,
    )
