-- How much would have passed: the issue's sentences as theorems, by what the desk answers. What the call gives: `most::most`'s promise.
use mathlib.Core.Bool.{true, false}
use mathlib.Core.Path.{◌≡◌, ap, ◌∙◌}
use Prim.Native.Nat.{ℕ, ◌≤◌}
use lib.Dec.{leb, eqb}
use Rattle.rows.specs.declared.Book.{Book}
use Rattle.rows.specs.Rows.{ceiling}
use Rattle.dayfile.specs.declared.Record.{Record}
use Rattle.passing.specs.Most.{with_amount, passes_with, least_of, most_of}
use Rattle.passing.specs.Facts.{Askable}
use Rattle.passing.proofs.Exactly.{smaller-passes, exactly, none_passes}
use Rattle.desk.specs.Answers.{refusal_in}
use Rattle.desk.specs.Steps.{step_of}
use Rattle.desk.proofs.Effect.{answer-number}

module _ (b : Book) (r : Record) where
  -- r(x) is carried out exactly when no refusal of the table meets it
  carried : (x : ℕ) → eqb (refusal_in (step_of b (with_amount b r x)).answer.outcome) 0 ≡ passes_with b r x
  carried x = ap (λ n. eqb n 0) (answer-number b (with_amount b r x))

  -- "for every x from the least to the ceiling: r(x) is carried out exactly when x is at most what `most` gives", ..
  pub carried-out-exactly : (most_of b r).refusal ≡ 0 → (x : ℕ) → least_of r.code ≤ x → x ≤ ceiling
      → eqb (refusal_in (step_of b (with_amount b r x)).answer.outcome) 0 ≡ leb x (most_of b r).amount
  carried-out-exactly e x low high = carried x ∙ exactly b r e x low high

  -- .. and where it gives a refusal behind 7, at a sound book, no such x is carried out. (`Askable`: the book is sound, the code has an amount, the mark names one that suits it, the account is live.)
  pub none-is-carried-out : Askable b r → ((most_of b r).refusal ≡ 0 → ⊥) → (x : ℕ) → least_of r.code ≤ x → x ≤ ceiling
      → eqb (refusal_in (step_of b (with_amount b r x)).answer.outcome) 0 ≡ false
  none-is-carried-out a n x low high = carried x ∙ none_passes b r a n x low high

  -- "a smaller amount never meets 10, 11, 12 or 13 where a larger one doesn't": nor any other refusal
  pub a-smaller-amount-passes-too : Askable b r → (x y : ℕ) → least_of r.code ≤ y → y ≤ x → x ≤ ceiling → passes_with b r x ≡ true → passes_with b r y ≡ true
  a-smaller-amount-passes-too a = smaller-passes b r a
