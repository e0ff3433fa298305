-- Where a run of records stops: what its closing word and its counts say.
use mathlib.Core.Bool.{Bool, true, false}
use mathlib.Core.List.{List}
use mathlib.Core.Logic.{◌⊎◌, inl, inr}
use mathlib.Core.Path.{◌≡◌, refl, sym, ◌∙◌}
use Prim.Native.Nat.{ℕ, zero, suc, ◌+◌, ◌≤◌, ◌<◌}
use native.Mathlib.Omega.{arith}
use lib.ListN.{length}
use Rattle.numbers.specs.Bytes.{Bytes}
use Rattle.rows.specs.declared.Book.{Book}
use Rattle.book.specs.Sound.{sound_b}
use Rattle.dayfile.specs.declared.Found.{Found}
use Rattle.dayfile.specs.declared.Found.TheVariants.{End as NoBytes, Cut as TooFew, Whole}
use Rattle.dayfile.specs.Reading.{found_at}
use Rattle.dayfile.proofs.Places.{next-within, end-at}
use Rattle.dayfile.proofs.Growing.{cut-near}
use Rattle.desk.specs.declared.Outcome.{Outcome}
use Rattle.desk.specs.declared.Outcome.TheVariants.{CarriedOut, Opened, Refused, End as NoRecord}
use Rattle.desk.specs.Answers.{carried_in}
use Rattle.desk.specs.Steps.{step_of}
use Rattle.records.specs.declared.Closing.{Closing}
use Rattle.records.specs.declared.Closing.TheVariants.{End, Cut, Long, Unsound}
use Rattle.records.specs.Runs.{Ran, ended_with, stopped, onward, run_of, ran_of}
use Rattle.records.proofs.NumbersPut.{ran-sound, ran-unsound}

-- two closing words that differ
never : {A : Type 0} → ◌≡◌ {A = ℕ} 0 1 → A
never e = absurd (omega arith)

-- a run r that began at the place at with these counts, over up to most records
pub record Stopped (s : List ℕ) (most at read done : ℕ) (r : Ran) : Type 0 where
  pub from : read ≤ r.read
  pub upto : r.read ≤ read + most
  pub fewer : r.done + read ≤ r.read + done
  pub within : at ≤ length s → r.place ≤ length s
  pub still : r.read ≡ read → r.place ≡ at
  pub ended : r.closing ≡ End → found_at s r.place ≡ NoBytes
  pub short : r.closing ≡ Cut → found_at s r.place ≡ TooFew
  pub long : r.closing ≡ Long → r.read ≡ read + most

-- it stopped where it began
here : (s : List ℕ) (most : ℕ) (word : Closing) (b : Book) (at read done : ℕ)
    → (word ≡ End → found_at s at ≡ NoBytes) → (word ≡ Cut → found_at s at ≡ TooFew) → (word ≡ Long → most ≡ 0)
    → Stopped s most at read done (ended_with word b at read done)
here s most word b at read done e c l = record {
  from = omega arith;
  upto = omega arith;
  fewer = omega arith;
  within = λ h. h;
  still = λ h. refl;
  ended = e;
  short = c;
  long = λ h. omega (arith, l h);
}

carried-one : (o : Outcome) → carried_in o ≤ 1
carried-one CarriedOut = omega arith
carried-one (Opened n) = omega arith
carried-one (Refused n) = omega arith
carried-one NoRecord = omega arith

-- one record before the run
before : (s : List ℕ) (most at read done next c : ℕ) (r : Ran) → next ≤ length s → c ≤ 1
    → Stopped s most next (read + 1) (done + c) r → Stopped s (suc most) at read done r
before s most at read done next c r h k g = record {
  from = omega (arith, g.from);
  upto = omega (arith, g.upto);
  fewer = omega (arith, g.fewer);
  within = λ _. g.within h;
  still = λ e. absurd (omega (arith, g.from));
  ended = g.ended;
  short = g.short;
  long = λ e. omega (arith, g.long e);
}

pub run-stops : (s : List ℕ) (most : ℕ) (b : Book) (at read done : ℕ) → Stopped s most at read done (run_of s most b at read done)
unfolding run_of
run-stops s zero b at read done = by (found_at s at) refl
  where
    by : (f : Found) → found_at s at ≡ f → Stopped s zero at read done (stopped f b at read done)
    by NoBytes e = here s zero End b at read done (λ _. e) (λ w. never (cc)) (λ w. never (cc))
    by TooFew e = here s zero Long b at read done (λ w. never (cc)) (λ w. never (cc)) (λ _. refl)
    by (Whole r next) e = here s zero Long b at read done (λ w. never (cc)) (λ w. never (cc)) (λ _. refl)
run-stops s (suc most) b at read done = by (found_at s at) refl (λ b' next d. run-stops s most b' next (read + 1) d)
  where
    by : (f : Found) → found_at s at ≡ f
        → ((b' : Book) (next d : ℕ) → Stopped s most next (read + 1) d (run_of s most b' next (read + 1) d))
        → Stopped s (suc most) at read done (onward (run_of s most) f b at read done)
    by NoBytes e go = here s (suc most) End b at read done (λ _. e) (λ w. never (cc)) (λ w. never (cc))
    by TooFew e go = here s (suc most) Cut b at read done (λ w. never (cc)) (λ _. e) (λ w. never (cc))
    by (Whole r next) e go =
        let o = (step_of b r).answer.outcome in
        before s most at read done next (carried_in o) _ (next-within s at e) (carried-one o)
        (go (step_of b r).book next (done + carried_in o))

-- where it is not the stated number that stopped a run, a larger one changes nothing
pub run-enough : (s : List ℕ) (m n : ℕ) (b : Book) (at read done : ℕ) → m ≤ n → ((run_of s m b at read done).closing ≡ Long → ⊥)
    → run_of s n b at read done ≡ run_of s m b at read done
unfolding run_of
run-enough s zero n b at read done h w = by n (found_at s at) refl w
  where
    by : (k : ℕ) (f : Found) → found_at s at ≡ f → ((stopped f b at read done).closing ≡ Long → ⊥) → run_of s k b at read done ≡ stopped f b at read done
    by zero NoBytes e w = rw e
    by (suc k) NoBytes e w = rw e
    by k TooFew e w = absurd (w refl)
    by k (Whole r next) e w = absurd (w refl)
run-enough s (suc m) zero b at read done h w = absurd (omega arith)
run-enough s (suc m) (suc n) b at read done h w = by (found_at s at) w (λ b' next d v. run-enough s m n b' next (read + 1) d (omega arith) v)
  where
    by : (f : Found) → ((onward (run_of s m) f b at read done).closing ≡ Long → ⊥)
        → ((b' : Book) (next d : ℕ) → ((run_of s m b' next (read + 1) d).closing ≡ Long → ⊥) → run_of s n b' next (read + 1) d ≡ run_of s m b' next (read + 1) d)
        → onward (run_of s n) f b at read done ≡ onward (run_of s m) f b at read done
    by NoBytes v go = refl
    by TooFew v go = refl
    by (Whole r next) v go = go (step_of b r).book next (done + carried_in (step_of b r).answer.outcome) v

-- ---- the public call

module _ (b : Book) (s : List ℕ) (most : ℕ) where
  pub ran-stops : Stopped s most 0 0 0 (ran_of b s most)
  ran-stops = by (sound_b b) refl
    where
      by : (t : Bool) → sound_b b ≡ t → Stopped s most 0 0 0 (ran_of b s most)
      by true e = rw (sym (ran-sound b s most e)) (run-stops s most b 0 0 0)
      by false e = rw (sym (ran-unsound b s most e)) (here s most Unsound b 0 0 0 (λ w. never (cc)) (λ w. never (cc)) (λ w. never (cc)))

  -- 70 bytes hold a record: where there are as many, the end and a cut come only after one
  pub ran-moves : Bytes s → 70 ≤ length s → ((ran_of b s most).closing ≡ End) ⊎ ((ran_of b s most).closing ≡ Cut) → 0 < (ran_of b s most).read
  ran-moves y h w = by w (ran_of b s most).read refl
    where
      by : ((ran_of b s most).closing ≡ End) ⊎ ((ran_of b s most).closing ≡ Cut) → (k : ℕ) → (ran_of b s most).read ≡ k → 0 < k
      by w (suc k) e = omega arith
      by (inl q) zero e = absurd (omega (arith, end-at s _ (ran-stops.ended q), ran-stops.still e))
      by (inr q) zero e = absurd (omega (arith, cut-near s _ y (ran-stops.short q), ran-stops.still e))

pub ran-enough : (b : Book) (s : List ℕ) (m n : ℕ) → m ≤ n → ((ran_of b s m).closing ≡ Long → ⊥) → ran_of b s n ≡ ran_of b s m
ran-enough b s m n h w = by (sound_b b) refl
  where
    by : (t : Bool) → sound_b b ≡ t → ran_of b s n ≡ ran_of b s m
    by true e =
        sym (ran-sound b s n e)
        ∙ run-enough s m n b 0 0 0 h (rw (sym (ran-sound b s m e)) at w)
        ∙ ran-sound b s m e
    by false e = sym (ran-unsound b s n e) ∙ ran-unsound b s m e
