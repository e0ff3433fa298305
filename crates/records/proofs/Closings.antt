-- The closing words: each but `long` is another word than it, and only an unsound book has a number.
use mathlib.Core.Bool.{Bool, true, false}
use mathlib.Core.List.{List}
use mathlib.Core.Path.{◌≡◌, refl}
use Prim.Native.Nat.{ℕ, zero, suc, ◌+◌}
use native.Mathlib.Omega.{arith}
use Rattle.sums.specs.Choice.{pick}
use Rattle.rows.specs.declared.Book.{Book}
use Rattle.book.specs.Sound.{sound_b}
use Rattle.dayfile.specs.declared.Found.{Found}
use Rattle.dayfile.specs.declared.Found.TheVariants.{End as NoBytes, Cut as TooFew, Whole}
use Rattle.dayfile.specs.Reading.{found_at}
use Rattle.desk.specs.Answers.{carried_in}
use Rattle.desk.specs.Steps.{step_of}
use Rattle.records.specs.declared.Closing.TheVariants.{End, Cut, Long, Unsound}
use Rattle.records.specs.Runs.{ended_with, stopped, onward, run_of, ran_of, number_closing, closing_refusal}

pub end-long : {A : Type 0} → End ≡ Long → A
end-long p = let z : ◌≡◌ {A = ℕ} 0 1 = cc in absurd (omega arith)

pub cut-long : {A : Type 0} → Cut ≡ Long → A
cut-long p = let z : ◌≡◌ {A = ℕ} 0 1 = cc in absurd (omega arith)

pub unsound-long : {A : Type 0} → Unsound ≡ Long → A
unsound-long p = let z : ◌≡◌ {A = ℕ} 0 1 = cc in absurd (omega arith)

run-closing : (s : List ℕ) (most : ℕ) (b : Book) (place read done : ℕ) → number_closing (run_of s most b place read done).closing ≡ 0
unfolding run_of
run-closing s zero b place read done = by (found_at s place)
  where
    by : (f : Found) → number_closing (stopped f b place read done).closing ≡ 0
    by NoBytes = refl
    by TooFew = refl
    by (Whole r next) = refl
run-closing s (suc most) b place read done = by (found_at s place) (λ b' p' r' d'. run-closing s most b' p' r' d')
  where
    by : (f : Found) → ((b' : Book) (p' r' d' : ℕ) → number_closing (run_of s most b' p' r' d').closing ≡ 0)
        → number_closing (onward (run_of s most) f b place read done).closing ≡ 0
    by NoBytes again = refl
    by TooFew again = refl
    by (Whole r next) again = again (step_of b r).book next (read + 1) (done + carried_in (step_of b r).answer.outcome)

pub ran-closing : (b : Book) (s : List ℕ) (most : ℕ) → number_closing (ran_of b s most).closing ≡ closing_refusal b
unfolding ran_of pick
ran-closing b s most = by (sound_b b)
  where
    by : (t : Bool) → number_closing (pick t (run_of s most b 0 0 0) (ended_with Unsound b 0 0 0)).closing ≡ pick t 0 1
    by true = run-closing s most b 0 0 0
    by false = refl
