-- Document 01's numbers of the answers: the refusal or 0, and the number given or 0.
use mathlib.Core.Bool.{Bool, true, false}
use mathlib.Core.List.{List}
use mathlib.Core.Path.{◌≡◌, refl, ap, ◌∙◌}
use Prim.Native.Nat.{ℕ, zero, suc}
use lib.Dec.{eqb}
use Rattle.sums.specs.Choice.{pick, unless_refused}
use Rattle.sums.specs.Sum.{only}
use Rattle.rows.specs.declared.Book.{Book}
use Rattle.rows.specs.Rows.{opened_row}
use Rattle.book.specs.Sound.{sound_b}
use Rattle.dayfile.specs.declared.Record.{Record}
use Rattle.dayfile.specs.declared.Found.{Found}
use Rattle.dayfile.specs.declared.Found.TheVariants.{End as NoBytes, Cut as TooFew, Whole}
use Rattle.dayfile.specs.Reading.{found_at}
use Rattle.rules.specs.declared.Change.TheVariants.{Put, Open}
use Rattle.rules.specs.Refusals.{is_opening, named_row}
use Rattle.rules.specs.Effects.{amended}
use Rattle.rules.specs.Numbered.{placed, verdict_of, given_of}
use Rattle.desk.specs.declared.Outcome.TheVariants.{Refused}
use Rattle.desk.specs.declared.Carried.{Carried}
use Rattle.desk.specs.declared.CarriedNext.{CarriedNext}
use Rattle.desk.specs.Answers.{refusal_in, given_in, nobody, of_record, answer_of}
use Rattle.desk.specs.Steps.{step_of, on_found, next_of, refusal_found, given_found, next_refusal, next_given}
use Rattle.desk.specs.Over.{over_done, over_next}
use Rattle.desk.proofs.Effect.{refused_as, passed-as, answer-number}

module _ (b : Book) (r : Record) where
  -- the record with its account told by the place of its row
  abbrev r' : Record
  r' = placed b r

  -- the number given is that of an opening carried out
  pub given-number : given_in (step_of b r).answer.outcome ≡ given_of b r
  unfolding pick
  given-number = by (verdict_of b r) refl
    where
      by : (n : ℕ) → verdict_of b r ≡ n → given_in (step_of b r).answer.outcome ≡ unless_refused n (only (is_opening r) b.next) (λ m. 0)
      by zero e = ap (λ d. given_in d.answer.outcome) (passed-as b r e) ∙ passing (is_opening r)
        where
          passing : (t : Bool) → given_in (answer_of b.next r (pick t (Open (opened_row r.code r'.account)) (Put (amended (named_row b r') r')))).outcome ≡ only t b.next
          passing true = refl
          passing false = refl
      by (suc n) e = ap (λ d. given_in d.answer.outcome) (refused_as b r n e) ∙ named (eqb (suc n) 1)
        where
          named : (t : Bool) → given_in (pick t (nobody (Refused (suc n))) (of_record r (Refused (suc n)))).outcome ≡ 0
          named true = refl
          named false = refl

  pub done-named : (d : Carried) → d ≡ over_done (step_of b r)
      → (d ≡ over_done (step_of b r)) × ((refusal_in d.answer.outcome ≡ verdict_of b r) × (given_in d.answer.outcome ≡ given_of b r))
  done-named d e = (e, (ap (λ x. refusal_in x.answer.outcome) e ∙ answer-number b r, ap (λ x. given_in x.answer.outcome) e ∙ given-number))

module _ (b : Book) (s : List ℕ) (at : ℕ) where
  next-refusal : refusal_in (next_of b s at).answer.outcome ≡ next_refusal b s at
  unfolding next_of pick
  next-refusal = by (sound_b b)
    where
      found : (f : Found) → refusal_in (on_found b at f).answer.outcome ≡ refusal_found b f
      found NoBytes = refl
      found TooFew = refl
      found (Whole r next) = answer-number b r

      by : (t : Bool) → refusal_in (pick t (on_found b at (found_at s at)) (record { answer = nobody (Refused 1); book = b; place = at })).answer.outcome ≡ pick t (refusal_found b (found_at s at)) 1
      by true = found (found_at s at)
      by false = refl

  next-given : given_in (next_of b s at).answer.outcome ≡ next_given b s at
  unfolding next_of pick
  next-given = by (sound_b b)
    where
      found : (f : Found) → given_in (on_found b at f).answer.outcome ≡ given_found b f
      found NoBytes = refl
      found TooFew = refl
      found (Whole r next) = given-number b r

      by : (t : Bool) → given_in (pick t (on_found b at (found_at s at)) (record { answer = nobody (Refused 1); book = b; place = at })).answer.outcome ≡ pick t (given_found b (found_at s at)) 0
      by true = found (found_at s at)
      by false = refl

  pub next-named : (n : CarriedNext) → n ≡ over_next (next_of b s at)
      → (n ≡ over_next (next_of b s at)) × ((refusal_in n.answer.outcome ≡ next_refusal b s at) × (given_in n.answer.outcome ≡ next_given b s at))
  next-named n e = (e, (ap (λ x. refusal_in x.answer.outcome) e ∙ next-refusal, ap (λ x. given_in x.answer.outcome) e ∙ next-given))
