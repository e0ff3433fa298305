-- A step by the change that its record makes: the answer and the book, for each of refused, put and opened.
use mathlib.Core.Bool.{true, false, not}
use mathlib.Core.List.{List}
use mathlib.Core.Path.{◌≡◌, refl, sym, ap, ◌∙◌}
use Prim.Native.Nat.{ℕ}
use borrow.Author.Tests.{ne_eqb}
use Rattle.sums.specs.Choice.{pick, unless_refused}
use native.Mathlib.Omega.{arith}
use lib.Dec.{eqb}
use Rattle.sums.proofs.Choices.{pick_first, pick_second, pick_no}
use Rattle.sums.proofs.Tables.{first-here}
use Rattle.rows.specs.declared.Book.{Book}
use Rattle.rows.specs.Rows.{place_of}
use Rattle.book.specs.Sound.{sound_b}
use Rattle.book.specs.Facts.{Sound}
use Rattle.dayfile.specs.declared.Record.{Record}
use Rattle.dayfile.specs.declared.Found.{Found}
use Rattle.dayfile.specs.Reading.{found_at}
use Rattle.rules.specs.declared.Change.{Change}
use Rattle.rules.specs.declared.Change.TheVariants.{Refuse, Put, Open}
use Rattle.rules.specs.Refusals.{named_row, refusal_of}
use Rattle.rules.specs.Effects.{effect_of, change_of}
use Rattle.rules.specs.Numbered.{placed, act_of, record_after}
use Rattle.rules.proofs.Deciding.{never-one, refuse-some, refuse-number}
use Rattle.steps.specs.Steps.{refusal_shown, given_shown}
use Rattle.table.specs.declared.Table.{Table}
use Rattle.table.specs.Words.{turned}
use Rattle.desk.specs.declared.Outcome.{Outcome}
use Rattle.desk.specs.declared.Outcome.TheVariants.{CarriedOut, Refused}
use Rattle.desk.specs.declared.Carried.{Carried}
use Rattle.desk.specs.Answers.{nobody, of_record, answer_of}
use Rattle.desk.specs.Inner.{outcome_by}
use Rattle.desk.specs.Over.{over_done}
use Rattle.desk.specs.Steps.{Next, Done, done_by, step_of, on_found, next_of}

pub step_by : (b : Book) (r : Record) (c : Change) → act_of b r ≡ c → done_by b r c ≡ step_of b r
unfolding step_of
step_by b r c e = ap (done_by b r) (sym e)

-- the answer by the numbers that the change shows
pub answer-by : (b : Book) (r : Record) → Sound b → (c : Change) → act_of b r ≡ c
    → of_record r (outcome_by (refusal_shown c) (given_shown b.next c)) ≡ answer_of b.next r c
unfolding pick
answer-by b r s (Refuse n) e =
    ap (of_record r) (pick_no (eqb n 0) _ (Refused n) (ne_eqb n 0 (refuse-some b (placed b r) n e)))
    ∙ sym (pick_no (eqb n 1) (nobody (Refused n)) _ (ne_eqb n 1 (λ q. never-one b (placed b r) s (refuse-number b (placed b r) n e ∙ q))))
answer-by b r s (Put x) e = refl
answer-by b r s (Open x) e = ap (of_record r) (pick_no (eqb b.next 0) CarriedOut _ (ne_eqb b.next 0 (λ q. omega (arith, s.numbered.below 0 s.shaped.some))))

-- one record on words in place is the old order's, turned over
pub stepped-over : (b : Book) (r : Record) → Sound b → (n g : ℕ) (o : Outcome) (t : Table) → o ≡ outcome_by n g → n ≡ refusal_shown (act_of b r) → g ≡ given_shown b.next (act_of b r)
    → t ≡ turned (record_after b r) → ◌≡◌ {A = Carried} (record { answer = of_record r o; table = t }) (over_done (step_of b r))
unfolding step_of
stepped-over b r s n g o t eo en eg e =
    ap (λ o. record { answer = of_record r o; table = t }) (eo ∙ both en eg)
    ∙ ap (λ a. record { answer = a; table = t }) (answer-by b r s (act_of b r) refl)
    ∙ ap (λ x. record { answer = answer_of b.next r (act_of b r); table = x }) e
  where
    both : {n n' g g' : ℕ} → n ≡ n' → g ≡ g' → outcome_by n g ≡ outcome_by n' g'
    both p q = cc

-- "1: the book isn't sound"
pub unsound-step : (b : Book) (r : Record) → sound_b b ≡ false → ◌≡◌ {A = Done} (record { answer = nobody (Refused 1); book = b }) (step_of b r)
unfolding change_of refusal_of pick
unsound-step b r e = step_by b r (Refuse 1) (ap (λ n. unless_refused n (effect_of (named_row b (placed b r)) (place_of b r.account) (placed b r)) Refuse) (first-here 1 (not (sound_b b)) _ (ap not e)))

module _ (b : Book) (s : List ℕ) (at : ℕ) where
  pub unsound-next : sound_b b ≡ false → ◌≡◌ {A = Next} (record { answer = nobody (Refused 1); book = b; place = at }) (next_of b s at)
  unfolding next_of
  unsound-next e = pick_second _ e refl

  pub sound-next : (f : Found) → sound_b b ≡ true → found_at s at ≡ f → on_found b at f ≡ next_of b s at
  unfolding next_of
  sound-next f e h = pick_first _ e (ap (on_found b at) (sym h))
