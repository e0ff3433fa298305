-- Two counters, one book, for day files (K14): two files with the same records in two orders, each carried out to the last record that is read.
use mathlib.Core.Bool.{true}
use mathlib.Core.List.{List, [], ◌∷◌}
use mathlib.Core.Path.{◌≡◌, refl, sym, ap, ◌∙◌}
use Prim.Native.Nat.{ℕ, zero, suc, ◌+◌, ◌≤◌}
use native.Mathlib.Omega.{arith}
use lib.ListN.{length}
use Rattle.sums.specs.Choice.{unless_refused}
use Rattle.rows.specs.declared.Book.{Book}
use Rattle.book.specs.Sound.{sound_b}
use Rattle.dayfile.specs.declared.Record.{Record}
use Rattle.dayfile.specs.declared.Found.{Found}
use Rattle.dayfile.specs.declared.Found.TheVariants.{End as NoBytes, Cut as TooFew, Whole}
use Rattle.dayfile.specs.Files.{Reads, done as ended, more, AllGood, file_of}
use Rattle.dayfile.specs.declared.Read.TheVariants.{End, Good, Bad}
use Rattle.dayfile.specs.Records.{fault_of}
use Rattle.dayfile.specs.Reading.{found_at, judged, read_of, read_at}
use Rattle.dayfile.proofs.RoundTrip.{read_found, file-reads}
use Rattle.desk.specs.declared.Outcome.{Outcome}
use Rattle.desk.specs.declared.Outcome.TheVariants.{CarriedOut, Opened, Refused, End as NoRecord}
use Rattle.desk.specs.Answers.{carried_in, refusal_in}
use Rattle.desk.specs.Steps.{step_of}
use Rattle.desk.proofs.Effect.{answer-number}
use Rattle.records.specs.Runs.{Ran, stopped, onward, run_of, ran_of}
use Rattle.records.proofs.Stops.{run-stops}
use Rattle.records.proofs.NumbersPut.{ran-sound}
use Rattle.promises.specs.Sequences.{after_all}
use Rattle.promises.specs.Orders.{TwoOrders, WithoutOpenings, AllCarriedOut, SameButModes, listing, records_at}
use Rattle.promises.proofs.TwoCounters.{the-same-book-but-for-modes}

-- the book after a run is the book after the records that it read
run-book : (s : List ℕ) (most : ℕ) (b : Book) (at read done : ℕ) → (run_of s most b at read done).book ≡ after_all b (records_at s most at)
unfolding run_of after_all records_at
run-book s zero b at read done = by (found_at s at)
  where
    by : (f : Found) → (stopped f b at read done).book ≡ b
    by NoBytes = refl
    by TooFew = refl
    by (Whole r next) = refl
run-book s (suc most) b at read done = by (found_at s at) (λ c next n d. run-book s most c next n d)
  where
    by : (f : Found) → ((c : Book) (next n d : ℕ) → (run_of s most c next n d).book ≡ after_all c (records_at s most next))
        → (onward (run_of s most) f b at read done).book ≡ after_all b (listing (records_at s most) f)
    by NoBytes go = refl
    by TooFew go = refl
    by (Whole r next) go = go (step_of b r).book next (read + 1) (done + carried_in (step_of b r).answer.outcome)

carried-0 : (o : Outcome) → 1 ≤ carried_in o → (carried_in o ≡ 1) × (refusal_in o ≡ 0)
carried-0 CarriedOut h = (refl, refl)
carried-0 (Opened n) h = (refl, refl)
carried-0 (Refused n) h = absurd (omega arith)
carried-0 NoRecord h = absurd (omega arith)

-- where as many are carried out as are read, each one is
run-all : (s : List ℕ) (most : ℕ) (b : Book) (at read done : ℕ) → (run_of s most b at read done).done + read ≡ (run_of s most b at read done).read + done
    → AllCarriedOut b (records_at s most at)
unfolding run_of AllCarriedOut records_at
run-all s zero b at read done h = tt
run-all s (suc most) b at read done h =
    by (found_at s at) (λ c next n d e. run-all s most c next n d e) (λ c next n d. (run-stops s most c next n d).fewer) h
  where
    by : (f : Found)
        → ((c : Book) (next n d : ℕ) → (run_of s most c next n d).done + n ≡ (run_of s most c next n d).read + d → AllCarriedOut c (records_at s most next))
        → ((c : Book) (next n d : ℕ) → (run_of s most c next n d).done + n ≤ (run_of s most c next n d).read + d)
        → (onward (run_of s most) f b at read done).done + read ≡ (onward (run_of s most) f b at read done).read + done
        → AllCarriedOut b (listing (records_at s most) f)
    by NoBytes go fewer e = tt
    by TooFew go fewer e = tt
    by (Whole r next) go fewer e =
        let o = (step_of b r).answer.outcome in
        let c = (step_of b r).book in
        let one = carried-0 o (omega (arith, fewer c next (read + 1) (done + carried_in o))) in
        (sym (answer-number b r) ∙ one.1, go c next (read + 1) (done + carried_in o) (omega (arith, one.0)))

module _ (b : Book) (sound : sound_b b ≡ true) (s : List ℕ) (most : ℕ) where
  ran-book : (ran_of b s most).book ≡ after_all b (records_at s most 0)
  ran-book = sym (ap (λ (x : Ran). x.book) (ran-sound b s most sound)) ∙ run-book s most b 0 0 0

  ran-all : (ran_of b s most).done ≡ (ran_of b s most).read → AllCarriedOut b (records_at s most 0)
  ran-all e =
      let q = ran-sound b s most sound in
      run-all s most b 0 0 0 (omega (arith, ap (λ (x : Ran). x.done) q, ap (λ (x : Ran). x.read) q))

-- Two day files, up to a stated number of records each: where every record read is carried out, both times, and the records are two orders of the same ones, none an opening, the books after them
-- are the same but for their modes.
pub two-files : (b : Book) → sound_b b ≡ true → (s x : List ℕ) (most : ℕ) → TwoOrders (records_at s most 0) (records_at x most 0)
    → WithoutOpenings (records_at s most 0)
    → (ran_of b s most).done ≡ (ran_of b s most).read
    → (ran_of b x most).done ≡ (ran_of b x most).read
    → SameButModes (ran_of b s most).book (ran_of b x most).book
two-files b sound s x most same plain one other =
    let c = ran-book b sound s most in
    let d = ran-book b sound x most in
    let h = the-same-book-but-for-modes b sound (records_at s most 0) (records_at x most 0) same plain (ran-all b sound s most one) (ran-all b sound x most other) in
    rw (c, d) h

end-lists : (go : ℕ → List Record) (f : Found) → read_of f ≡ End → listing go f ≡ []
unfolding read_of judged
end-lists go NoBytes e = refl
end-lists go TooFew e = refl
end-lists go (Whole r next) e = by (fault_of r) e
  where
    by : (n : ℕ) → unless_refused n (Good r next) (λ m. Bad m r.serial r.code r.account next) ≡ End → (r ∷ go next) ≡ []
    by zero h = absurd (let z : ◌≡◌ {A = ℕ} 0 1 = cc in omega arith)
    by (suc n) h = absurd (let z : ◌≡◌ {A = ℕ} 0 1 = cc in omega arith)

-- bytes that read as good records have these records
pub records-read : (s : List ℕ) (most at : ℕ) (rs : List Record) → Reads s at rs → length rs ≤ most → records_at s most at ≡ rs
unfolding records_at read_at
records-read s zero at [] (ended e) h = refl
records-read s zero at (r ∷ rs) (more e p) h = absurd (omega arith)
records-read s (suc most) at [] (ended e) h = end-lists (records_at s most) (found_at s at) e
records-read s (suc most) at (r ∷ rs) (more {next} e p) h =
    ap (listing (records_at s most)) (read_found s at e).0 ∙ ap (λ l. r ∷ l) (records-read s most next rs p (omega arith))

-- and so has a day file that was written from them
pub records-written : (most : ℕ) (rs : List Record) → AllGood rs → length rs ≤ most → records_at (file_of rs) most 0 ≡ rs
records-written most rs g h = records-read (file_of rs) most 0 rs (file-reads rs g) h
