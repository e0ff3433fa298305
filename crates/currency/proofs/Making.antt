-- What is made, by the first test that fails.
use mathlib.Core.List.{List, [], ◌∷◌}
use mathlib.Core.Path.{◌≡◌, refl, ap, ◌∙◌}
use Prim.Native.Nat.{ℕ, zero, suc, ◌≤◌, ◌<◌}
use borrow.Author.Tests.{lt-ltb, le-ltb}
use lib.Dec.{ltb}
use lib.ListN.{take}
use Rattle.sums.specs.Choice.{unless_refused}
use Rattle.sums.specs.Table.{first}
use Rattle.sums.proofs.Choices.{pick_yes, pick_no}
use Rattle.sums.proofs.Tables.{first-here, first-later}
use Rattle.rows.specs.Rows.{ceiling}
use Rattle.currency.specs.declared.Position.{Position}
use Rattle.currency.specs.declared.Made.TheVariants.{Given, Refused}
use Rattle.currency.specs.Charges.{first_fault}
use Rattle.currency.specs.Margins.{sum_of, last_refusals, refusal_of, margin_record, made_of}

module _ (serial account initial : ℕ) (positions : List Position) (number : ℕ) where
  -- a refusal's number decides what is made
  refused : (n : ℕ) → refusal_of initial positions number ≡ suc n → made_of serial account initial positions number ≡ Refused (suc n)
  unfolding made_of
  refused n e = ap (λ k. unless_refused k (Given (margin_record serial account (sum_of initial (take number positions)))) Refused) e

  pub too_many : 64 < number → made_of serial account initial positions number ≡ Refused 15
  unfolding refusal_of
  too_many h = refused 14 (pick_yes _ _ _ (lt-ltb 64 number h))

  module _ (few : number ≤ 64) where
    past-number : refusal_of initial positions number
        ≡ unless_refused (first_fault (take number positions)) (first (last_refusals initial (take number positions))) (λ n. n)
    unfolding refusal_of
    past-number = pick_no _ _ _ (le-ltb 64 number few)

    pub at-fault : (first_fault (take number positions) ≡ 0 → ⊥) → made_of serial account initial positions number ≡ Refused (first_fault (take number positions))
    at-fault h = by (first_fault (take number positions)) refl h
      where
        by : (n : ℕ) → first_fault (take number positions) ≡ n → (n ≡ 0 → ⊥) → made_of serial account initial positions number ≡ Refused n
        by zero e g = absurd (g refl)
        by (suc n) e g =
            refused n (past-number ∙ ap (λ k. unless_refused k (first (last_refusals initial (take number positions))) (λ m. m)) e)

    module _ (faultless : first_fault (take number positions) ≡ 0) where
      past-faults : refusal_of initial positions number ≡ first (last_refusals initial (take number positions))
      past-faults = past-number ∙ ap (λ k. unless_refused k (first (last_refusals initial (take number positions))) (λ n. n)) faultless

      pub initial-past : ceiling < initial → made_of serial account initial positions number ≡ Refused 20
      initial-past h = refused 19 (past-faults ∙ first-here 20 _ _ (lt-ltb ceiling initial h))

      module _ (most : initial ≤ ceiling) where
        past-initial : refusal_of initial positions number ≡ first ((record { number = 21; test = ltb ceiling (sum_of initial (take number positions)) }) ∷ [])
        past-initial = past-faults ∙ first-later 20 _ _ (le-ltb ceiling initial most)

        pub sum_past : ceiling < sum_of initial (take number positions) → made_of serial account initial positions number ≡ Refused 21
        sum_past h = refused 20 (past-initial ∙ first-here 21 _ _ (lt-ltb ceiling _ h))

        pub sum-within : sum_of initial (take number positions) ≤ ceiling
            → made_of serial account initial positions number ≡ Given (margin_record serial account (sum_of initial (take number positions)))
        unfolding made_of first
        sum-within h =
            ap (λ k. unless_refused k (Given (margin_record serial account (sum_of initial (take number positions)))) Refused)
            (past-initial ∙ first-later 21 _ [] (le-ltb ceiling _ h))
