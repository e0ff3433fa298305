-- Records at two books of which one is the other without rows that are not live: answered alike while none is refused with 9, over values and over bytes.
use mathlib.Core.Bool.{Bool, true, false}
use mathlib.Core.List.{List, [], ◌∷◌}
use mathlib.Core.Path.{◌≡◌, refl, sym, ap, subst, ◌∙◌}
use Prim.Native.Nat.{ℕ, zero, suc, ◌+◌}
use Rattle.sums.specs.Choice.{pick}
use Rattle.rows.specs.declared.Row.{Row}
use Rattle.rows.specs.declared.Book.{Book}
use Rattle.book.specs.Facts.{Sound}
use Rattle.dayfile.specs.declared.Record.{Record}
use Rattle.dayfile.specs.declared.Found.{Found}
use Rattle.dayfile.specs.declared.Found.TheVariants.{End as NoBytes, Cut as TooFew, Whole}
use Rattle.dayfile.specs.Reading.{found_at}
use Rattle.rules.specs.declared.Change.TheVariants.{Put, Open}
use Rattle.rules.specs.Refusals.{is_opening}
use Rattle.rules.specs.Numbered.{verdict_of}
use Rattle.desk.specs.declared.Answer.{Answer}
use Rattle.desk.specs.Answers.{answer_of, refusal_in, carried_in}
use Rattle.desk.specs.Steps.{step_of}
use Rattle.desk.proofs.Effect.{answer-number, refused_as, passed-as}
use Rattle.records.specs.Runs.{stopped, onward, run_of}
use Rattle.records.specs.LineNumbers.{answering, answers_of}
use Rattle.thinned.proofs.Thinned.{Thinned}
use Rattle.thinned.proofs.Answers.{same_answer, thinned-on, sound-on}
use Rattle.thinned.proofs.Standings.{same-standing}
use Rattle.thinned.proofs.Accounts.{same-account}
use Rattle.promises.specs.Sequences.{after_all}
use Rattle.promises.specs.Archivings.{ButForArchived, AlikeButForArchived, answers_to, NoneIsNine}

-- what the relation shows
pub but-for : {keep : ℕ → Bool} {b c : Book} → Sound b → Sound c → Thinned keep b c → ButForArchived b c
but-for s t d = record { serial = d.serial; next = d.next; standings = same-standing s t d; accounts = same-account s t d }

-- the answer goes by the refusal, by whether the record opens an account, and by the next number
answer-same : (b c : Book) (r : Record) → c.next ≡ b.next → verdict_of c r ≡ verdict_of b r → (step_of c r).answer ≡ (step_of b r).answer
unfolding pick
answer-same b c r n e = by (verdict_of b r) refl
  where
    opened : (x : Bool) (p q p' q' : Row) → answer_of c.next r (pick x (Open p) (Put q)) ≡ answer_of b.next r (pick x (Open p') (Put q'))
    opened true p q p' q' = ap (λ k. answer_of k r (Open p)) n
    opened false p q p' q' = refl

    by : (v : ℕ) → verdict_of b r ≡ v → (step_of c r).answer ≡ (step_of b r).answer
    by zero f = ap (λ d. d.answer) (passed-as c r (e ∙ f)) ∙ opened (is_opening r) _ _ _ _ ∙ sym (ap (λ d. d.answer) (passed-as b r f))
    by (suc v) f = ap (λ d. d.answer) (refused_as c r v (e ∙ f)) ∙ sym (ap (λ d. d.answer) (refused_as b r v f))

both : {x y : Answer} {xs ys : List Answer} → x ≡ y → xs ≡ ys → x ∷ xs ≡ y ∷ ys
both p q = cc

module _ {keep : ℕ → Bool} where
  -- one record
  module _ {b c : Book} (s : Sound b) (t : Sound c) (d : Thinned keep b c) (r : Record) (ne : refusal_in (step_of b r).answer.outcome ≡ 9 → ⊥) where
    no_nine : verdict_of b r ≡ 9 → ⊥
    no_nine e = ne (answer-number b r ∙ e)

    one_answer : (step_of c r).answer ≡ (step_of b r).answer
    one_answer = answer-same b c r d.next (same_answer s t d r no_nine)

    next-sound : Sound (step_of b r).book
    unfolding step_of
    next-sound = sound-on b r s

    next-sound' : Sound (step_of c r).book
    unfolding step_of
    next-sound' = sound-on c r t

    next-thinned : Thinned keep (step_of b r).book (step_of c r).book
    unfolding step_of
    next-thinned = thinned-on s t d r no_nine

  -- a list of records
  pub list-alike : {b c : Book} → Sound b → Sound c → Thinned keep b c → (rs : List Record) → NoneIsNine (answers_to b rs)
      → (answers_to c rs ≡ answers_to b rs) × ButForArchived (after_all b rs) (after_all c rs)
  unfolding answers_to NoneIsNine after_all
  list-alike s t d [] h = (refl, but-for s t d)
  list-alike {b = b} {c = c} s t d (r ∷ rs) h =
      let rest = list-alike {b = (step_of b r).book} {c = (step_of c r).book} (next-sound s t d r h.0) (next-sound' s t d r h.0) (next-thinned s t d r h.0) rs h.1 in
      (both (one_answer s t d r h.0) rest.0, rest.1)

  -- a piece of the day file
  module _ (piece : List ℕ) where
    ended-alike : {b c : Book} → Sound b → Sound c → Thinned keep b c → (f : Found) (place read done : ℕ)
        → AlikeButForArchived (stopped f b place read done) (stopped f c place read done)
    ended-alike s t d NoBytes place read done = record { place = refl; closing = refl; read = refl; done = refl; books = but-for s t d }
    ended-alike s t d TooFew place read done = record { place = refl; closing = refl; read = refl; done = refl; books = but-for s t d }
    ended-alike s t d (Whole r next) place read done = record { place = refl; closing = refl; read = refl; done = refl; books = but-for s t d }

    pub piece-alike : (n : ℕ) (b c : Book) → Sound b → Sound c → Thinned keep b c → (place read done : ℕ) → NoneIsNine (answers_of piece n b place)
        → (answers_of piece n c place ≡ answers_of piece n b place) × AlikeButForArchived (run_of piece n b place read done) (run_of piece n c place read done)
    unfolding answers_of run_of NoneIsNine
    piece-alike zero b c s t d place read done h = (refl, ended-alike s t d (found_at piece place) place read done)
    piece-alike (suc n) b c s t d place read done h = by (found_at piece place) h (piece-alike n)
      where
        by : (f : Found) → NoneIsNine (answering (answers_of piece n) f b)
            → ((b c : Book) → Sound b → Sound c → Thinned keep b c → (place read done : ℕ) → NoneIsNine (answers_of piece n b place)
            → (answers_of piece n c place ≡ answers_of piece n b place) × AlikeButForArchived (run_of piece n b place read done) (run_of piece n c place read done))
            → (answering (answers_of piece n) f c ≡ answering (answers_of piece n) f b)
            × AlikeButForArchived (onward (run_of piece n) f b place read done) (onward (run_of piece n) f c place read done)
        by NoBytes h go = (refl, ended-alike s t d NoBytes place read done)
        by TooFew h go = (refl, record { place = refl; closing = refl; read = refl; done = refl; books = but-for s t d })
        by (Whole r next) h go =
            let e = one_answer s t d r h.0 in
            let rest = go (step_of b r).book (step_of c r).book (next-sound s t d r h.0) (next-sound' s t d r h.0) (next-thinned s t d r h.0) next (read + 1) (done + carried_in (step_of b r).answer.outcome) h.1 in (
              both e rest.0,
              subst (λ a. AlikeButForArchived (run_of piece n (step_of b r).book next (read + 1) (done + carried_in (step_of b r).answer.outcome)) (run_of piece n (step_of c r).book next (read + 1) (done + carried_in a.outcome))) (sym e) rest.1,
            )
