-- Document 02, K10: "It joins K9's sum before the record is sent."
use Rattle.std.specs.Prelude.{not, List, [], ◌∷◌, ℕ, ◌+◌, ltb, take, ℤ}
use Rattle.sums.specs.Choice.{pick, unless_refused}
use Rattle.sums.specs.Table.{Line, ◌when◌, first}
use Rattle.rows.specs.Rows.{ceiling}
use Rattle.currency.specs.declared.Position.{Position}
use Rattle.currency.specs.declared.Made.{Made}
use Rattle.currency.specs.declared.Made.TheVariants.{Given, Refused}
use Rattle.currency.specs.Charges.{first_fault}
use Rattle.currency.specs.Margins.{sum_of, margin_record}
use Rattle.exposure.specs.Exposures.{all_in_range, total_of, payable_of}

module _ (premium loss exercise settlement : ℤ) where
  -- K9's sum and what is payable
  unfoldable pub joined_sum : ℕ → List Position → ℕ
  joined_sum initial positions = sum_of initial positions + payable_of (total_of premium loss exercise settlement)

  -- "Refusals: 22, a figure out of range, before 21."
  abbrev pub last_refusals : ℕ → List Position → List Line
  last_refusals initial positions =
      (20 when ltb ceiling initial)
      ∷ (22 when not (all_in_range premium loss exercise settlement))
      ∷ (21 when ltb ceiling (joined_sum initial positions))
      ∷ []

  -- K9's order, with 22 in its place
  unfoldable pub refusal_of : ℕ → List Position → ℕ → ℕ
  refusal_of initial positions number =
      pick (ltb 64 number) 15
      (unless_refused (first_fault (take number positions)) (first (last_refusals initial (take number positions))) (λ n. n))

unfoldable pub joined_of : ℕ → ℕ → ℕ → List Position → ℕ → ℤ → ℤ → ℤ → ℤ → Made
joined_of serial account initial positions number premium loss exercise settlement =
    unless_refused (refusal_of premium loss exercise settlement initial positions number)
    (Given (margin_record serial account (joined_sum premium loss exercise settlement initial (take number positions))))
    Refused
