-- What is told of a piece's records, whatever is told of each: from a place on, of a longer piece, and where nothing is left to tell.
use mathlib.Core.List.{List, [], ◌++◌, append_assoc}
use mathlib.Core.Logic.{◌⊎◌, inl, inr}
use mathlib.Core.Path.{◌≡◌, refl, sym, ap, ◌∙◌}
use Prim.Native.Nat.{ℕ, zero, suc, ◌+◌, ◌-◌, ◌≤◌}
use native.Mathlib.Nat.{add-zero}
use native.Mathlib.Omega.{arith}
use lib.ListN.{length, drop}
use lib.Seq.{drop-append-le}
use Rattle.rows.specs.declared.Book.{Book}
use Rattle.book.specs.Facts.{Sound}
use Rattle.book.proofs.SoundTest.{sound←}
use Rattle.dayfile.specs.declared.Record.{Record}
use Rattle.dayfile.specs.declared.Found.{Found}
use Rattle.dayfile.specs.declared.Found.TheVariants.{End as NoBytes, Cut as TooFew, Whole}
use Rattle.dayfile.specs.Reading.{found_at}
use Rattle.dayfile.proofs.Growing.{further, found-further, found-longer}
use Rattle.desk.specs.Answers.{carried_in}
use Rattle.desk.specs.Steps.{step_of}
use Rattle.records.specs.Runs.{Ran, stopped, onward, run_of, ran_of}
use Rattle.records.proofs.Stops.{run-stops}
use Rattle.records.proofs.NumbersPut.{ran-sound}
use Rattle.telling.specs.Told.{telling, told_of}

module _ (tell : Book → Record → List ℕ) where
  -- nothing is told where no record stands
  pub none_told : (s : List ℕ) (n : ℕ) (b : Book) (at : ℕ) → (n ≡ 0) ⊎ ((found_at s at ≡ NoBytes) ⊎ (found_at s at ≡ TooFew)) → told_of tell s n b at ≡ []
  unfolding told_of
  none_told s zero b at h = refl
  none_told s (suc n) b at (inl e) = absurd (omega arith)
  none_told s (suc n) b at (inr (inl e)) = rw e
  none_told s (suc n) b at (inr (inr e)) = rw e

  -- from a place on: of what stands from that place on
  pub told-from : (s : List ℕ) (p n : ℕ) (b : Book) (at : ℕ) → told_of tell s n b (p + at) ≡ told_of tell (drop p s) n b at
  unfolding told_of
  told-from s p zero b at = refl
  told-from s p (suc n) b at = ap (λ f. telling tell (told_of tell s n) f b) (found-further s p at) ∙ by (found_at (drop p s) at) (λ b' next. told-from s p n b' next)
    where
      by : (f : Found) → ((b' : Book) (next : ℕ) → told_of tell s n b' (p + next) ≡ told_of tell (drop p s) n b' next)
          → telling tell (told_of tell s n) (further p f) b ≡ telling tell (told_of tell (drop p s) n) f b
      by NoBytes go = refl
      by TooFew go = refl
      by (Whole r next) go = ap (λ l. tell b r ++ l) (go (step_of b r).book next)

  -- of a longer piece: of the piece, and then from the place where its run stopped
  abbrev AndThere : List ℕ → ℕ → ℕ → Ran → List ℕ
  AndThere s n read r = told_of tell s (n - (r.read - read)) r.book r.place

  stay : (s : List ℕ) (n : ℕ) (b : Book) (at read : ℕ) → told_of tell s n b at ≡ told_of tell s (n - (read - read)) b at
  stay s n b at read = let e : n ≡ n - (read - read) = omega arith in ap (λ k. told_of tell s k b at) e

  told-on : (s x : List ℕ) (m n : ℕ) → m ≤ n → (b : Book) (at read done : ℕ)
      → told_of tell (s ++ x) n b at ≡ told_of tell s m b at ++ AndThere (s ++ x) n read (run_of s m b at read done)
  unfolding run_of told_of
  told-on s x zero n h b at read done = by (found_at s at)
    where
      by : (f : Found) → told_of tell (s ++ x) n b at ≡ AndThere (s ++ x) n read (stopped f b at read done)
      by NoBytes = stay (s ++ x) n b at read
      by TooFew = stay (s ++ x) n b at read
      by (Whole r next) = stay (s ++ x) n b at read
  told-on s x (suc m) zero h b at read done = absurd (omega arith)
  told-on s x (suc m) (suc n) h b at read done = by (found_at s at) refl (λ b' next d. told-on s x m n (omega arith) b' next (read + 1) d)
    where
      by : (f : Found) → found_at s at ≡ f
          → ((b' : Book) (next d : ℕ) → told_of tell (s ++ x) n b' next ≡ told_of tell s m b' next ++ AndThere (s ++ x) n (read + 1) (run_of s m b' next (read + 1) d))
          → told_of tell (s ++ x) (suc n) b at ≡ telling tell (told_of tell s m) f b ++ AndThere (s ++ x) (suc n) read (onward (run_of s m) f b at read done)
      by NoBytes e go = stay (s ++ x) (suc n) b at read
      by TooFew e go = stay (s ++ x) (suc n) b at read
      by (Whole r next) e go =
          let b' = (step_of b r).book in
          let d' = done + carried_in (step_of b r).answer.outcome in
          let t = run_of s m b' next (read + 1) d' in
          let fuel : n - (t.read - (read + 1)) ≡ suc n - (t.read - read) = omega (arith, (run-stops s m b' next (read + 1) d').from) in
          ap (λ f. telling tell (told_of tell (s ++ x) n) f b) (found-longer s x at r next e)
          ∙ ap (λ l. tell b r ++ l) (go b' next d')
          ∙ ap (λ k. tell b r ++ (told_of tell s m b' next ++ told_of tell (s ++ x) k t.book t.place)) fuel
          ∙ sym (append_assoc (tell b r) (told_of tell s m b' next) _)

  -- THE LAW of pieces: of a piece, up to m records, and then of what is left and of what follows
  pub told-in-pieces : (b : Book) (s x : List ℕ) (m n : ℕ) → m ≤ n → Sound b → (let ran = ran_of b s m in
      told_of tell (s ++ x) n b 0 ≡ told_of tell s m b 0 ++ told_of tell (drop ran.place s ++ x) (n - ran.read) ran.book 0)
  told-in-pieces b s x m n h g =
      let ran = ran_of b s m in
      let is : run_of s m b 0 0 0 ≡ ran = ran-sound b s m (sound← b g) in
      let first = told_of tell s m b 0 in
      let k = n - ran.read in
      let fuel : n - (ran.read - 0) ≡ k = omega arith in
      let inside : ran.place ≤ length s = rw is at ((run-stops s m b 0 0 0).within (omega arith)) in
      told-on s x m n h b 0 0 0
      ∙ ap (λ q. first ++ AndThere (s ++ x) n 0 q) is
      ∙ ap (λ j. first ++ told_of tell (s ++ x) j ran.book ran.place) fuel
      ∙ ap (λ p. first ++ told_of tell (s ++ x) k ran.book p) (sym (add-zero ran.place))
      ∙ ap (λ a. first ++ a) (told-from (s ++ x) ran.place k ran.book 0)
      ∙ ap (λ l. first ++ told_of tell l k ran.book 0) (drop-append-le ran.place s x inside)
