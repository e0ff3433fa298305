-- Document 02, K12: "The evening sums read one amount of all accounts."
use Rattle.std.specs.Prelude.{not, List, [], ◌∷◌, ℕ}
use Rattle.sums.specs.Choice.{unless_refused}
use Rattle.sums.specs.Sum.{sum}
use Rattle.sums.specs.Table.{Line, ◌when◌, first}
use Rattle.rows.specs.declared.Row.{Row}
use Rattle.rows.specs.declared.Book.{Book}
use Rattle.rows.specs.Rows.{row_at}
use Rattle.book.specs.declared.Amount.{Amount}
use Rattle.book.specs.declared.Amount.TheVariants.{
  ReceivedCash,
  ReceivedDeposits,
  ReceivedGuarantees,
  ReceivedSecurities,
  AllocatedCash,
  AllocatedDeposits,
  AllocatedGuarantees,
  AllocatedSecurities,
  Pledged,
  Margin,
}
use Rattle.book.specs.declared.Summed.{Summed}
use Rattle.book.specs.Sound.{sound_b}

-- an amount of a row
abbrev pub amount_in : Amount → Row → ℕ
amount_in ReceivedCash r = r.received.cash
amount_in ReceivedDeposits r = r.received.deposits
amount_in ReceivedGuarantees r = r.received.guarantees
amount_in ReceivedSecurities r = r.received.securities
amount_in AllocatedCash r = r.allocated.cash
amount_in AllocatedDeposits r = r.allocated.deposits
amount_in AllocatedGuarantees r = r.allocated.guarantees
amount_in AllocatedSecurities r = r.allocated.securities
amount_in Pledged r = r.pledged
amount_in Margin r = r.margin

-- "one amount of all accounts", added up over the old order's rows
unfoldable pub evening_sum : Book → Amount → ℕ
evening_sum b a = sum b.count (λ i. amount_in a (row_at b i))

-- "1: the book isn't sound"
abbrev pub evening_refusals : Book → List Line
evening_refusals b = (1 when not (sound_b b)) ∷ []

-- what an evening sum gives: with a refusal the total is 0
unfoldable pub evening_of : Book → Amount → Summed
evening_of b a = unless_refused (first (evening_refusals b)) (record { refusal = 0; total = evening_sum b a }) (λ n. record { refusal = n; total = 0 })
