-- "The evening sums read one amount of all accounts.": what one gives, and that its run of words is the amount of the old order's rows.
use mathlib.Core.Path.{◌≡◌, refl, ap, ◌∙◌}
use mathlib.Core.Bool.{true, false, not}
use mathlib.Core.List.{[]}
use Prim.Native.Nat.{◌≤◌, ◌<◌}
use native.Mathlib.Omega.{arith}
use Rattle.sums.specs.Choice.{unless_refused}
use Rattle.sums.specs.Table.{first}
use Rattle.sums.proofs.Sums.{sum-eq}
use Rattle.sums.proofs.Tables.{first-here, first-later}
use Rattle.rows.specs.declared.Row.{Row}
use Rattle.rows.specs.declared.Book.{Book}
use Rattle.rows.specs.Rows.{row_at}
use Rattle.table.specs.declared.Table.{Table}
use Rattle.table.specs.Words.{amount_of, turned_back}
use Rattle.table.specs.Inner.{amount_sum}
use Rattle.table.proofs.EveningSums.{sum-by-rows}
use Rattle.book.specs.declared.Amount.{Amount}
use Rattle.book.specs.declared.Amount.TheVariants.{
  ReceivedCash,
  ReceivedDeposits,
  ReceivedGuarantees,
  ReceivedSecurities,
  AllocatedCash,
  AllocatedDeposits,
  AllocatedGuarantees,
  AllocatedSecurities,
  Pledged,
  Margin,
}
use Rattle.book.specs.Sound.{sound_b}
use Rattle.book.specs.Evening.{amount_in, evening_sum, evening_of}
use Rattle.book.specs.Inner.{amount_number}

module _ (b : Book) (a : Amount) where
  pub unsound-evening : sound_b b ≡ false → evening_of b a ≡ record { refusal = 1; total = 0 }
  unfolding evening_of
  unsound-evening e =
      ap (λ n. unless_refused n (record { refusal = 0; total = evening_sum b a }) (λ k. record { refusal = k; total = 0 })) (first-here 1 (not (sound_b b)) [] (ap not e))

  pub sound-evening : sound_b b ≡ true → evening_of b a ≡ record { refusal = 0; total = evening_sum b a }
  unfolding evening_of first
  sound-evening e =
      ap (λ n. unless_refused n (record { refusal = 0; total = evening_sum b a }) (λ k. record { refusal = k; total = 0 })) (first-later 1 (not (sound_b b)) [] (ap not e))

-- each amount has its own run
pub number_is : (a : Amount) (r : Row) → amount_of r (amount_number a) ≡ amount_in a r
number_is ReceivedCash r = refl
number_is ReceivedDeposits r = refl
number_is ReceivedGuarantees r = refl
number_is ReceivedSecurities r = refl
number_is AllocatedCash r = refl
number_is AllocatedDeposits r = refl
number_is AllocatedGuarantees r = refl
number_is AllocatedSecurities r = refl
number_is Pledged r = refl
number_is Margin r = refl

pub number-below : (a : Amount) → amount_number a < 10
number-below ReceivedCash = omega arith
number-below ReceivedDeposits = omega arith
number-below ReceivedGuarantees = omega arith
number-below ReceivedSecurities = omega arith
number-below AllocatedCash = omega arith
number-below AllocatedDeposits = omega arith
number-below AllocatedGuarantees = omega arith
number-below AllocatedSecurities = omega arith
number-below Pledged = omega arith
number-below Margin = omega arith

pub number-sum : (t : Table) (a : Amount) → t.count ≤ 256 → amount_sum t.amounts (amount_number a) t.count ≡ evening_sum (turned_back t) a
unfolding evening_sum
number-sum t a l =
    let b = turned_back t in
    sum-by-rows t.marks t.amounts (amount_number a) t.count (number-below a) l
    ∙ sum-eq t.count (λ i. amount_of (row_at b i) (amount_number a)) (λ i. amount_in a (row_at b i)) (λ i p. number_is a (row_at b i))
