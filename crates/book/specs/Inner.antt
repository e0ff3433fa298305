-- Only for internal functions: no promise of a public call cites it.
use Rattle.std.specs.Prelude.{Bool, false, List, ℕ, get_or}
use Rattle.sums.specs.Sum.{all}
use Rattle.rows.specs.declared.Row.{Row}
use Rattle.table.specs.Words.{word_at, row_from}
use Rattle.book.specs.Sound.{good_mode}
use Rattle.book.specs.declared.sound.Mark.{Mark}
use Rattle.book.specs.declared.Amount.{Amount}
use Rattle.book.specs.declared.Amount.TheVariants.{
  ReceivedCash,
  ReceivedDeposits,
  ReceivedGuarantees,
  ReceivedSecurities,
  AllocatedCash,
  AllocatedDeposits,
  AllocatedGuarantees,
  AllocatedSecurities,
  Pledged,
  Margin,
}

-- a row for a test that looks at no amount
abbrev pub marked : Mark → Row
marked m = row_from m.sort m.live m.tm (λ k. 0)

-- account i's row for a test that looks at amounts alone
abbrev pub amounts_at : List ℕ → ℕ → Row
amounts_at w i = row_from 0 false 0 (λ k. word_at w k i)

-- each mode is that of the CM or of a live TM, by the arrays that say so
unfoldable pub modes_at : List ℕ → List Bool → List Bool → Bool
modes_at sort live modes = all 256 (λ i. good_mode i (get_or sort i 0) (get_or live i false) (get_or modes i false))

-- the run of words that an amount has
abbrev pub amount_number : Amount → ℕ
amount_number ReceivedCash = 0
amount_number ReceivedDeposits = 1
amount_number ReceivedGuarantees = 2
amount_number ReceivedSecurities = 3
amount_number AllocatedCash = 4
amount_number AllocatedDeposits = 5
amount_number AllocatedGuarantees = 6
amount_number AllocatedSecurities = 7
amount_number Pledged = 8
amount_number Margin = 9
