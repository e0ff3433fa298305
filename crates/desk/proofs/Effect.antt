-- What a record does to the book: nothing, the serial alone, or one row and the serial.
use mathlib.Core.Bool.{Bool, true, false, ◌||◌}
use mathlib.Core.Logic.{◌⊎◌, inl, inr}
use mathlib.Core.Path.{◌≡◌, refl, sym, ap, ◌∙◌}
use Prim.Native.Nat.{ℕ, zero, suc, ◌≤◌, ◌<◌}
use native.Mathlib.Omega.{arith}
use lib.Dec.{leb, eqb}
use borrow.Author.Tests.{le-leb, lt-leb, leb-true, eqb-true}
use Rattle.sums.specs.Choice.{pick, unless_refused}
use Rattle.sums.specs.Table.{Given, NoneHolds}
use Rattle.sums.proofs.Choices.{pick_yes, pick_no, or_split}
use Rattle.sums.proofs.Tables.{given-first, first-given, none-gives-0, gives-0-none, first_passes}
use Rattle.rows.specs.declared.Book.{Book}
use Rattle.rows.specs.Rows.{opened_row}
use Rattle.dayfile.specs.declared.Record.{Record}
use Rattle.rules.specs.declared.Change.TheVariants.{Refuse, Put, Open}
use Rattle.rules.specs.Refusals.{is_opening, named_row, refusals, refusal_of}
use Rattle.rules.specs.Effects.{amended, effect_of, change_of, moved_on}
use Rattle.rules.specs.Numbered.{placed, verdict_of, act_of}
use Rattle.desk.specs.declared.Outcome.TheVariants.{Refused}
use Rattle.desk.specs.Answers.{refusal_in, nobody, of_record, answer_of}
use Rattle.desk.specs.Steps.{done_by, step_of}
use Rattle.desk.proofs.Doing.{step_by}

module _ (b : Book) (r : Record) where
  -- the record with its account told by the place of its row
  abbrev r' : Record
  r' = placed b r

  -- the change, by the number that the table gives
  change-at : (n : ℕ) → verdict_of b r ≡ n → act_of b r ≡ unless_refused n (effect_of (named_row b r') r'.account r') Refuse
  unfolding change_of
  change-at n e = ap (λ m. unless_refused m (effect_of (named_row b r') r'.account r') Refuse) e

  pub refused_as : (n : ℕ) → verdict_of b r ≡ suc n → step_of b r ≡ done_by b r (Refuse (suc n))
  refused_as n e = sym (step_by b r (Refuse (suc n)) (change-at (suc n) e))

  -- a record that no refusal meets does what its code says
  pub passed-as : verdict_of b r ≡ 0 → step_of b r ≡ done_by b r (effect_of (named_row b r') r'.account r')
  passed-as e = sym (step_by b r _ (change-at 0 e))

  -- the answer names the number that the table gives
  pub answer-number : refusal_in (step_of b r).answer.outcome ≡ verdict_of b r
  unfolding pick
  answer-number = by (verdict_of b r) refl
    where
      by : (n : ℕ) → verdict_of b r ≡ n → refusal_in (step_of b r).answer.outcome ≡ n
      by zero e = ap (λ d. refusal_in d.answer.outcome) (passed-as e) ∙ passing (is_opening r)
        where
          passing : (t : Bool) → refusal_in (answer_of b.next r (pick t (Open (opened_row r.code r'.account)) (Put (amended (named_row b r') r')))).outcome ≡ 0
          passing true = refl
          passing false = refl
      by (suc n) e = ap (λ d. refusal_in d.answer.outcome) (refused_as n e) ∙ named (eqb (suc n) 1)
        where
          named : (t : Bool) → refusal_in (pick t (nobody (Refused (suc n))) (of_record r (Refused (suc n)))).outcome ≡ suc n
          named true = refl
          named false = refl

  -- "Refusals 1, 2 and 3 change nothing."
  pub early-refusal : 0 < verdict_of b r → verdict_of b r ≤ 3 → (step_of b r).book ≡ b
  early-refusal p q = by (verdict_of b r) refl p q
    where
      by : (n : ℕ) → verdict_of b r ≡ n → 0 < n → n ≤ 3 → (step_of b r).book ≡ b
      by zero e h l = absurd (omega arith)
      by (suc n) e h l = ap (λ d. d.book) (refused_as n e) ∙ pick_yes (leb (suc n) 3) _ _ (le-leb (suc n) 3 l)

  -- "Refusals 4 to 14 change the serial only", and 17 (K5)
  pub later-refusal : 3 < verdict_of b r → (step_of b r).book ≡ moved_on b
  later-refusal p = by (verdict_of b r) refl p
    where
      by : (n : ℕ) → verdict_of b r ≡ n → 3 < n → (step_of b r).book ≡ moved_on b
      by zero e h = absurd (omega arith)
      by (suc n) e h = ap (λ d. d.book) (refused_as n e) ∙ pick_no (leb (suc n) 3) _ _ (lt-leb (suc n) 3 h)

  -- "each refusal exactly when": its test holds and no earlier one does
  pub given-exactly : (k : ℕ) → Given k (refusals b r') → verdict_of b r ≡ k
  unfolding refusal_of
  given-exactly k g = given-first g

  pub exactly-given : (k : ℕ) → 0 < k → verdict_of b r ≡ k → Given k (refusals b r')
  unfolding refusal_of
  exactly-given k p e = first-given (refusals b r') k p e

  -- a record is carried out exactly when no test of the table holds
  pub carried-exactly : verdict_of b r ≡ 0 → NoneHolds (refusals b r')
  unfolding refusal_of
  carried-exactly e = gives-0-none (refusals b r') (omega arith, (omega arith, (omega arith, (omega arith, (omega arith, (omega arith, (omega arith, (omega arith, (omega arith, (omega arith, (omega arith, (omega arith, (omega arith, (omega arith, tt)))))))))))))) e

  pub exactly-carried : NoneHolds (refusals b r') → verdict_of b r ≡ 0
  unfolding refusal_of
  exactly-carried h = none-gives-0 (refusals b r') h

  -- the table has no other numbers than 1 to 14 and 17
  pub number-of-table : (verdict_of b r ≤ 14) ⊎ (verdict_of b r ≡ 17)
  unfolding refusal_of
  number-of-table = by (or_split (leb (verdict_of b r) 14) (eqb (verdict_of b r) 17) (first_passes (λ n. leb n 14 || eqb n 17) (refusals b r') refl))
    where
      by : (leb (verdict_of b r) 14 ≡ true) ⊎ (eqb (verdict_of b r) 17 ≡ true) → (verdict_of b r ≤ 14) ⊎ (verdict_of b r ≡ 17)
      by (inl e) = inl (leb-true _ 14 e)
      by (inr e) = inr (eqb-true _ 17 e)
