-- The record loop: what holds at each turn, one record more, and where it stops.
use mathlib.Core.Bool.{Bool, true, false}
use mathlib.Core.List.{List}
use mathlib.Core.Path.{◌≡◌, refl, sym, ap, ◌∙◌}
use Prim.Native.Nat.{ℕ, zero, suc, ◌+◌, ◌-◌, ◌*◌, ◌≤◌, ◌<◌}
use native.Mathlib.Omega.{arith}
use lib.ListN.{length}
use lib.Seq.{length-sets}
use Rattle.sums.specs.Choice.{pick}
use Rattle.rows.specs.declared.Book.{Book}
use Rattle.rows.specs.Rows.{place_of}
use Rattle.book.specs.Facts.{Sound}
use Rattle.dayfile.specs.declared.Record.{Record}
use Rattle.dayfile.specs.declared.Found.TheVariants.{End as NoBytes, Cut as TooFew, Whole}
use Rattle.dayfile.specs.Reading.{found_at}
use Rattle.rules.specs.declared.Change.{Change}
use Rattle.rules.specs.declared.Change.TheVariants.{Refuse, Put, Open}
use Rattle.rules.specs.Effects.{book_after}
use Rattle.rules.specs.Numbered.{placed, act_of}
use Rattle.rules.proofs.SoundChange.{change-sound}
use Rattle.desk.specs.Answers.{carried_in, answer_of}
use Rattle.desk.specs.Steps.{step_of}
use Rattle.records.specs.declared.Closing.{Closing}
use Rattle.records.specs.declared.Closing.TheVariants.{End, Cut, Long}
use Rattle.records.specs.Runs.{ended_with, stopped, run_of}
use Rattle.records.specs.LineNumbers.{numbers_of_line}
use Rattle.records.specs.Inner.{put_line_numbers, put_numbers_from}
use Rattle.steps.specs.Steps.{carried_shown}
use Rattle.records.proofs.Numbers.{numbers_by, carried-shown, numbers-by}

-- s is the piece; with ₀ what was there where the loop began
module _ (s : List ℕ) (most : ℕ) (numbered : Bool) (room₀ : List ℕ) (b₀ : Book) (place₀ read₀ done₀ : ℕ) where
  pub record Loop (room : List ℕ) (b : Book) (place read done : ℕ) : Type 0 where
    pub within : read ≤ most
    pub fewer : done ≤ read
    pub sound : Sound b
    pub same : length room ≡ length room₀
    pub space : numbered ≡ true → 5 * most ≤ length room₀
    pub runs : run_of s (most - read) b place read done ≡ run_of s most b₀ place₀ read₀ done₀
    pub numbers : pick numbered (put_numbers_from s (most - read) b place read room) room ≡ pick numbered (put_numbers_from s most b₀ place₀ read₀ room₀) room₀

pub carried-most : (c : Change) → carried_shown c ≤ 1
carried-most (Refuse n) = omega arith
carried-most (Put x) = omega arith
carried-most (Open x) = omega arith

-- the step, by the change
step-book : (b : Book) (r : Record) (c : Change) → c ≡ act_of b r → (step_of b r).book ≡ book_after b (place_of b r.account) c
unfolding step_of
step-book b r c e = ap (book_after b (place_of b r.account)) (sym e)

step-carried : (b : Book) (r : Record) (c : Change) → c ≡ act_of b r → carried_in (step_of b r).answer.outcome ≡ carried_shown c
unfolding step_of
step-carried b r c e = ap (λ d. carried_in (answer_of b.next r d).outcome) (sym e) ∙ carried-shown b.next r c

module _ (s : List ℕ) (most : ℕ) (b : Book) (place read : ℕ) (r : Record) (next : ℕ) (l : read < most) (f : found_at s place ≡ Whole r next) where
  fuel : most - read ≡ suc (most - (read + 1))
  fuel = omega arith

  run-turn : (done : ℕ) → run_of s (most - read) b place read done
      ≡ run_of s (most - (read + 1)) (step_of b r).book next (read + 1) (done + carried_in (step_of b r).answer.outcome)
  unfolding run_of
  run-turn done = rw (fuel, f)

  numbers-turn : (room : List ℕ) → put_numbers_from s (most - read) b place read room
      ≡ put_numbers_from s (most - (read + 1)) (step_of b r).book next (read + 1) (put_line_numbers room read (numbers_of_line (step_of b r).answer))
  unfolding put_numbers_from
  numbers-turn room = rw (fuel, f)

module _ (s : List ℕ) (most : ℕ) (numbered : Bool) (room₀ : List ℕ) (b₀ : Book) (place₀ read₀ done₀ : ℕ)
    (room : List ℕ) (b : Book) (place read done : ℕ) (g : Loop s most numbered room₀ b₀ place₀ read₀ done₀ room b place read done) where
  -- one record more, whose change is c
  pub turn-one-more : (r : Record) (next : ℕ) (c : Change) (room' : List ℕ) (b' : Book) → read < most → found_at s place ≡ Whole r next → c ≡ act_of b r
      → room' ≡ pick numbered (put_line_numbers room read (numbers_by r b.next c)) room → b' ≡ book_after b (place_of b r.account) c
      → Loop s most numbered room₀ b₀ place₀ read₀ done₀ room' b' next (read + 1) (done + carried_shown c)
  unfolding pick
  turn-one-more r next c room' b' l f e er eb = record {
    within = omega arith;
    fewer = omega (arith, g.fewer, carried-most c);
    sound = rw (eb, e) (change-sound b (placed b r) g.sound);
    same = size numbered er ∙ g.same;
    space = g.space;
    runs = rw (eb, ← (step-book b r c e), ← (step-carried b r c e)) (sym (run-turn s most b place read r next l f done) ∙ g.runs);
    numbers = rw (eb, ← (step-book b r c e)) (numbers_on numbered er ∙ g.numbers);
  }
    where
      size : (t : Bool) → room' ≡ pick t (put_line_numbers room read (numbers_by r b.next c)) room → length room' ≡ length room
      size true q = ap length q ∙ length-sets room (5 * read) (numbers_by r b.next c)
      size false q = ap length q

      numbers_on : (t : Bool) → room' ≡ pick t (put_line_numbers room read (numbers_by r b.next c)) room
          → pick t (put_numbers_from s (most - (read + 1)) (step_of b r).book next (read + 1) room') room' ≡ pick t (put_numbers_from s (most - read) b place read room) room
      numbers_on true q =
          ap (put_numbers_from s (most - (read + 1)) (step_of b r).book next (read + 1)) (q ∙ ap (put_line_numbers room read) (sym (numbers-by b r c g.sound e)))
          ∙ sym (numbers-turn s most b place read r next l f room)
      numbers_on false q = q

  -- where the loop stops, no more numbers are put
  no-more-numbers : (t : Bool) → put_numbers_from s (most - read) b place read room ≡ room → pick t (put_numbers_from s (most - read) b place read room) room ≡ room
  unfolding pick
  no-more-numbers true h = h
  no-more-numbers false h = refl

  abbrev Finished : Closing → Type 0
  Finished word =
      (ended_with word b place read done ≡ run_of s most b₀ place₀ read₀ done₀)
      × (room ≡ pick numbered (put_numbers_from s most b₀ place₀ read₀ room₀) room₀)

  finish : (word : Closing) → run_of s (most - read) b place read done ≡ ended_with word b place read done → put_numbers_from s (most - read) b place read room ≡ room → Finished word
  finish word p q = (sym p ∙ g.runs, sym (no-more-numbers numbered q) ∙ g.numbers)

  at-end : (n : ℕ) → found_at s place ≡ NoBytes → (run_of s n b place read done ≡ ended_with End b place read done) × (put_numbers_from s n b place read room ≡ room)
  unfolding run_of put_numbers_from
  at-end zero f = (rw f, refl)
  at-end (suc n) f = (rw f, rw f)

  pub turn-ends : found_at s place ≡ NoBytes → Finished End
  turn-ends f = finish End (at-end (most - read) f).0 (at-end (most - read) f).1

  at_cut : (n : ℕ) → n ≡ suc (most - (read + 1)) → found_at s place ≡ TooFew → (run_of s n b place read done ≡ ended_with Cut b place read done) × (put_numbers_from s n b place read room ≡ room)
  unfolding run_of put_numbers_from
  at_cut n e f = rw e (rw f, rw f)

  pub turn-cuts : read < most → found_at s place ≡ TooFew → Finished Cut
  turn-cuts l f = let h = at_cut (most - read) (omega arith) f in finish Cut h.0 h.1

  at_most : (n : ℕ) → n ≡ 0 → (run_of s n b place read done ≡ stopped (found_at s place) b place read done) × (put_numbers_from s n b place read room ≡ room)
  unfolding run_of put_numbers_from
  at_most n e = rw e (refl, refl)

  pub long-cut : most ≤ read → found_at s place ≡ TooFew → Finished Long
  long-cut l f = let h = at_most (most - read) (omega arith) in finish Long (h.0 ∙ ap (λ x. stopped x b place read done) f) h.1

  pub long-whole : (r : Record) (next : ℕ) → most ≤ read → found_at s place ≡ Whole r next → Finished Long
  long-whole r next l f = let h = at_most (most - read) (omega arith) in finish Long (h.0 ∙ ap (λ x. stopped x b place read done) f) h.1
