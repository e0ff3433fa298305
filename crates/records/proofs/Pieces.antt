-- A day file carried out in pieces is the day file carried out at once.
use mathlib.Core.Bool.{Bool, true, false}
use mathlib.Core.List.{List, [], ◌++◌}
use mathlib.Core.Path.{◌≡◌, refl, sym, ap, ◌∙◌}
use Prim.Native.Nat.{ℕ, zero, suc, ◌+◌, ◌-◌, ◌≤◌}
use native.Mathlib.Nat.{add_assoc, add-zero, zero-add}
use native.Mathlib.Omega.{arith}
use lib.ListN.{drop, drop_of_length-le}
use lib.Seq.{drop-append-le}
use Rattle.rows.specs.declared.Book.{Book}
use Rattle.book.specs.Sound.{sound_b}
use Rattle.book.specs.Facts.{Sound}
use Rattle.book.proofs.SoundTest.{sound→, sound←}
use Rattle.dayfile.specs.declared.Found.{Found}
use Rattle.dayfile.specs.declared.Found.TheVariants.{End as NoBytes, Cut as TooFew, Whole}
use Rattle.dayfile.specs.Reading.{found_at}
use Rattle.dayfile.proofs.Growing.{further, found-further, found-longer}
use Rattle.dayfile.proofs.Places.{end-at}
use Rattle.desk.specs.Answers.{carried_in}
use Rattle.desk.specs.Steps.{step_of}
use Rattle.records.specs.declared.Closing.TheVariants.{End, Long, Unsound}
use Rattle.records.specs.Runs.{Ran, ended_with, stopped, onward, run_of, ran_of, on_from}
use Rattle.records.proofs.SoundRun.{run_sound}
use Rattle.records.proofs.Stops.{run-stops, ran-stops, ran-enough}
use Rattle.records.proofs.NumbersPut.{ran-sound, ran-unsound}

pub on-twice : (p k d p' k' d' : ℕ) (r : Ran) → on_from p k d (on_from p' k' d' r) ≡ on_from (p + p') (k + k') (d + d') r
on-twice p k d p' k' d' r =
    simp (sym (add_assoc p p' r.place), sym (add_assoc k k' r.read), sym (add_assoc d d' r.done))

pub on_none : (r : Ran) → r ≡ on_from 0 0 0 r
on_none r = simp zero-add

-- ---- a run that begins at a place is a run of what stands from that place on

run-from : (s : List ℕ) (p k d : ℕ) (most : ℕ) (b : Book) (at read done : ℕ)
    → run_of s most b (p + at) (k + read) (d + done) ≡ on_from p k d (run_of (drop p s) most b at read done)
unfolding run_of
run-from s p k d zero b at read done =
    ap (λ f. stopped f b (p + at) (k + read) (d + done)) (found-further s p at) ∙ by (found_at (drop p s) at)
  where
    by : (f : Found) → stopped (further p f) b (p + at) (k + read) (d + done) ≡ on_from p k d (stopped f b at read done)
    by NoBytes = refl
    by TooFew = refl
    by (Whole r next) = refl
run-from s p k d (suc most) b at read done =
    ap (λ f. onward (run_of s most) f b (p + at) (k + read) (d + done)) (found-further s p at)
    ∙ by (found_at (drop p s) at) (λ b' next read' done'. run-from s p k d most b' next read' done')
  where
    by : (f : Found)
        → ((b' : Book) (next read' done' : ℕ) → run_of s most b' (p + next) (k + read') (d + done') ≡ on_from p k d (run_of (drop p s) most b' next read' done'))
        → onward (run_of s most) (further p f) b (p + at) (k + read) (d + done) ≡ on_from p k d (onward (run_of (drop p s) most) f b at read done)
    by NoBytes go = refl
    by TooFew go = refl
    by (Whole r next) go =
        let b' = (step_of b r).book in
        let c = carried_in (step_of b r).answer.outcome in
        ap (λ n. run_of s most b' (p + next) n (d + done + c)) (add_assoc k read 1)
        ∙ ap (run_of s most b' (p + next) (k + (read + 1))) (add_assoc d done c)
        ∙ go b' next (read + 1) (done + c)

-- ---- a run of a longer piece comes by the place where the run of the piece stopped

abbrev FromThere : List ℕ → ℕ → ℕ → Ran → Ran
FromThere s n read r = run_of s (n - (r.read - read)) r.book r.place r.read r.done

stay : (s : List ℕ) (n : ℕ) (b : Book) (at read done : ℕ) → run_of s n b at read done ≡ run_of s (n - (read - read)) b at read done
stay s n b at read done = let e : n ≡ n - (read - read) = omega arith in ap (λ k. run_of s k b at read done) e

run_on : (s x : List ℕ) (m n : ℕ) → m ≤ n → (b : Book) (at read done : ℕ)
    → run_of (s ++ x) n b at read done ≡ FromThere (s ++ x) n read (run_of s m b at read done)
unfolding run_of
run_on s x zero n h b at read done = by (found_at s at)
  where
    by : (f : Found) → run_of (s ++ x) n b at read done ≡ FromThere (s ++ x) n read (stopped f b at read done)
    by NoBytes = stay (s ++ x) n b at read done
    by TooFew = stay (s ++ x) n b at read done
    by (Whole r next) = stay (s ++ x) n b at read done
run_on s x (suc m) zero h b at read done = absurd (omega arith)
run_on s x (suc m) (suc n) h b at read done = by (found_at s at) refl (λ b' next d. run_on s x m n (omega arith) b' next (read + 1) d)
  where
    by : (f : Found) → found_at s at ≡ f
        → ((b' : Book) (next d : ℕ) → run_of (s ++ x) n b' next (read + 1) d ≡ FromThere (s ++ x) n (read + 1) (run_of s m b' next (read + 1) d))
        → run_of (s ++ x) (suc n) b at read done ≡ FromThere (s ++ x) (suc n) read (onward (run_of s m) f b at read done)
    by NoBytes e go = stay (s ++ x) (suc n) b at read done
    by TooFew e go = stay (s ++ x) (suc n) b at read done
    by (Whole r next) e go =
        let b' = (step_of b r).book in
        let d' = done + carried_in (step_of b r).answer.outcome in
        let t = run_of s m b' next (read + 1) d' in
        let fuel : n - (t.read - (read + 1)) ≡ suc n - (t.read - read) = omega (arith, (run-stops s m b' next (read + 1) d').from) in
        ap (λ f. onward (run_of (s ++ x) n) f b at read done) (found-longer s x at r next e)
        ∙ go b' next d'
        ∙ ap (λ k. run_of (s ++ x) k t.book t.place t.read t.done) fuel

-- ---- the public call

-- after a run r of the piece s: what it left and what follows, up to n records in all
abbrev pub rest_of : Ran → List ℕ → List ℕ → ℕ → Ran
rest_of r s x n = on_from r.place r.read r.done (ran_of r.book (drop r.place s ++ x) (n - r.read))

module _ (b : Book) (s x : List ℕ) (m n : ℕ) (h : m ≤ n) where
  pieces-sound : Sound b → run_of (s ++ x) n b 0 0 0 ≡ rest_of (run_of s m b 0 0 0) s x n
  pieces-sound g =
      let r = run_of s m b 0 0 0 in
      let k = n - r.read in
      let fuel : n - (r.read - 0) ≡ k = omega arith in
      let inside = (run-stops s m b 0 0 0).within (omega arith) in
      run_on s x m n h b 0 0 0
      ∙ ap (λ j. run_of (s ++ x) j r.book r.place r.read r.done) fuel
      ∙ simp add-zero at (run-from (s ++ x) r.place r.read r.done k r.book 0 0 0)
      ∙ ap (λ l. on_from r.place r.read r.done (run_of l k r.book 0 0 0)) (drop-append-le r.place s x inside)
      ∙ ap (on_from r.place r.read r.done) (ran-sound r.book _ k (sound← r.book (run_sound s m b 0 0 0 g)))

  -- the records of a piece, up to m of them, and then those of what is left and of what follows: the records of the whole
  pub in_pieces : ran_of b (s ++ x) n ≡ rest_of (ran_of b s m) s x n
  in_pieces = by (sound_b b) refl
    where
      by : (t : Bool) → sound_b b ≡ t → ran_of b (s ++ x) n ≡ rest_of (ran_of b s m) s x n
      by true e = sym (ran-sound b (s ++ x) n e) ∙ pieces-sound (sound→ b e) ∙ ap (λ r. rest_of r s x n) (ran-sound b s m e)
      by false e =
          sym (ran-unsound b (s ++ x) n e)
          ∙ on_none (ended_with Unsound b 0 0 0)
          ∙ ap (on_from 0 0 0) (ran-unsound b (s ++ x) (n - 0) e)
          ∙ ap (λ r. rest_of r s x n) (ran-unsound b s m e)

-- ---- a piece that was read to its end, and then what follows, over the book after it

module _ (b : Book) (s x : List ℕ) (n : ℕ) (e : (ran_of b s n).closing ≡ End) where
  abbrev first : Ran
  first = ran_of b s n

  pub nothing_left : drop first.place s ≡ []
  nothing_left = drop_of_length-le s (end-at s first.place ((ran-stops b s n).ended e))

  pub after-end : ran_of b (s ++ x) n ≡ on_from first.place first.read first.done (ran_of first.book x (n - first.read))
  after-end =
      in_pieces b s x n n (omega arith)
      ∙ ap (λ l. on_from first.place first.read first.done (ran_of first.book (l ++ x) (n - first.read))) nothing_left

  -- where the stated number doesn't stop the whole, it is the second piece's too
  pub two-pieces : ((ran_of b (s ++ x) n).closing ≡ Long → ⊥) → ran_of b (s ++ x) n ≡ on_from first.place first.read first.done (ran_of first.book x n)
  two-pieces w =
      after-end
      ∙ ap (on_from first.place first.read first.done)
      (sym (ran-enough first.book x (n - first.read) n (omega arith) (λ l. w (ap (λ (r : Ran). r.closing) after-end ∙ l))))
