-- What the record loop puts into the room is the records' numbers, one after the other.
use mathlib.Core.Bool.{true, false}
use mathlib.Core.List.{List, [], ◌++◌, append_assoc}
use mathlib.Core.Path.{◌≡◌, refl, sym, ap, ◌∙◌}
use Prim.Native.Nat.{ℕ, zero, suc, ◌+◌, ◌*◌, ◌≤◌}
use native.Mathlib.Omega.{arith}
use lib.ListN.{length, take, drop, length-take, length-append, take-append-drop}
use lib.Seq.{sets, sets-eq, length-sets, take_at, drop-append-add, drop-drop}
use Rattle.sums.proofs.Choices.{pick_first, pick_second}
use Rattle.book.specs.Sound.{sound_b}
use Rattle.rows.specs.declared.Book.{Book}
use Rattle.dayfile.specs.declared.Found.{Found}
use Rattle.dayfile.specs.declared.Found.TheVariants.{End as NoBytes, Cut as TooFew, Whole}
use Rattle.dayfile.specs.Reading.{found_at}
use Rattle.desk.specs.declared.Answer.{Answer}
use Rattle.desk.specs.Steps.{step_of}
use Rattle.records.specs.declared.Closing.TheVariants.{Unsound}
use Rattle.records.specs.Runs.{ended_with, run_of, ran_of}
use Rattle.records.specs.LineNumbers.{answering, answers_of, numbers_of_line, numbers_of_lines, room_for, numbers_room}
use Rattle.records.specs.Inner.{put_line_numbers, numbering, put_numbers_from}

numbers-length : (a : Answer) → length (numbers_of_line a) ≡ 5
unfolding numbers_of_line
numbers-length a = refl

-- numbers l put at a place i of a room: what stands up to them, and past them
module _ (room l : List ℕ) (i : ℕ) (fits : i + length l ≤ length room) where
  front : List ℕ
  front = take i room ++ l

  front_length : length front ≡ i + length l
  unfolding front
  front_length = omega (arith, length-append (take i room) l, length-take i room)

  put-parts : sets room i l ≡ front ++ drop (i + length l) room
  unfolding front
  put-parts = sets-eq l room i fits

  take_put : take (i + length l) (sets room i l) ≡ front
  take_put = ap (take (i + length l)) put-parts ∙ take_at front (drop (i + length l) room) (i + length l) front_length

  drop-put : (m : ℕ) → drop (i + length l + m) (sets room i l) ≡ drop (i + length l + m) room
  drop-put m =
      ap (drop (i + length l + m)) put-parts
      ∙ ap (λ n. drop (n + m) (front ++ drop (i + length l) room)) (sym front_length)
      ∙ drop-append-add front (drop (i + length l) room) m
      ∙ drop-drop m (i + length l) room

-- the room from number k on: numbers that were put, and what was there past them
abbrev Shown : List ℕ → ℕ → List ℕ → List ℕ
Shown room k numbers = take (5 * k) room ++ (numbers ++ drop (5 * k + length numbers) room)

no-numbers : (k : ℕ) (room : List ℕ) → room ≡ Shown room k []
no-numbers k room =
    let e : 5 * k + 0 ≡ 5 * k = omega arith in
    sym (ap (λ n. take (5 * k) room ++ drop n room) e ∙ take-append-drop (5 * k) room)

-- one record's numbers put, and those of the records after it
one_more : (room : List ℕ) (k : ℕ) (l rest : List ℕ) → length l ≡ 5 → 5 * (k + 1) ≤ length room → Shown (sets room (5 * k) l) (k + 1) rest ≡ Shown room k (l ++ rest)
unfolding front
one_more room k l rest e h =
    let i = 5 * k in
    let fits : i + length l ≤ length room = omega arith in
    let after = sets room i l in
    let at : 5 * (k + 1) ≡ i + length l = omega arith in
    let past : i + length l + length rest ≡ i + length (l ++ rest) = omega (arith, length-append l rest) in
    let head : take (5 * (k + 1)) after ≡ take i room ++ l =
    ap (λ n. take n after) at ∙ take_put room l i fits in
    let tail : drop (5 * (k + 1) + length rest) after ≡ drop (i + length (l ++ rest)) room =
    ap (λ n. drop (n + length rest) after) at ∙ drop-put room l i fits (length rest) ∙ ap (λ n. drop n room) past in
    ap (λ x. x ++ (rest ++ drop (5 * (k + 1) + length rest) after)) head
    ∙ ap (λ x. (take i room ++ l) ++ (rest ++ x)) tail
    ∙ append_assoc (take i room) l (rest ++ drop (i + length (l ++ rest)) room)
    ∙ ap (λ x. take i room ++ x) (sym (append_assoc l rest (drop (i + length (l ++ rest)) room)))

pub numbers-shown : (s : List ℕ) (n : ℕ) (b : Book) (place k : ℕ) (room : List ℕ) → 5 * (k + n) ≤ length room
    → put_numbers_from s n b place k room ≡ Shown room k (numbers_of_lines (answers_of s n b place))
unfolding put_numbers_from answers_of numbers_of_lines
numbers-shown s zero b place k room h = no-numbers k room
numbers-shown s (suc n) b place k room h = by (found_at s place) (λ b' next room' h'. numbers-shown s n b' next (k + 1) room' h')
  where
    by : (f : Found) → ((b' : Book) (next : ℕ) (room' : List ℕ) → 5 * (k + 1 + n) ≤ length room'
        → put_numbers_from s n b' next (k + 1) room' ≡ Shown room' (k + 1) (numbers_of_lines (answers_of s n b' next)))
        → numbering (put_numbers_from s n) f b k room ≡ Shown room k (numbers_of_lines (answering (answers_of s n) f b))
    by NoBytes go = no-numbers k room
    by TooFew go = no-numbers k room
    by (Whole r next) go =
        let l = numbers_of_line (step_of b r).answer in
        go (step_of b r).book next (put_line_numbers room k l) (omega (arith, length-sets room (5 * k) l))
        ∙ one_more room k l _ (numbers-length (step_of b r).answer) (omega arith)

-- from the room's start
pub numbers-from-start : (s : List ℕ) (n : ℕ) (b : Book) (room : List ℕ) → 5 * n ≤ length room
    → put_numbers_from s n b 0 0 room ≡ numbers_of_lines (answers_of s n b 0) ++ drop (length (numbers_of_lines (answers_of s n b 0))) room
numbers-from-start s n b room h =
    let numbers = numbers_of_lines (answers_of s n b 0) in
    let e : 5 * 0 + length numbers ≡ length numbers = omega arith in
    numbers-shown s n b 0 0 room (omega arith) ∙ ap (λ m. numbers ++ drop m room) e

-- the two public calls
module _ (b : Book) (s : List ℕ) (most : ℕ) where
  pub ran-unsound : sound_b b ≡ false → ended_with Unsound b 0 0 0 ≡ ran_of b s most
  unfolding ran_of
  ran-unsound e = pick_second _ e refl

  pub ran-sound : sound_b b ≡ true → run_of s most b 0 0 0 ≡ ran_of b s most
  unfolding ran_of
  ran-sound e = pick_first _ e refl

module _ (b : Book) (s : List ℕ) (most : ℕ) (room : List ℕ) where
  pub numbers-unsound : sound_b b ≡ false → room ≡ numbers_room b s most room
  unfolding numbers_room
  numbers-unsound e = pick_second _ e refl

  pub numbers-sound : (n : ℕ) → n ≡ room_for most room → sound_b b ≡ true → put_numbers_from s n b 0 0 room ≡ numbers_room b s most room
  unfolding numbers_room
  numbers-sound n h e =
      ap (λ m. put_numbers_from s m b 0 0 room) h ∙ numbers-from-start s (room_for most room) b room (omega arith) ∙ pick_first _ e refl
