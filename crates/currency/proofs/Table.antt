-- The rates' bounds, all from one computed test over the table.
use mathlib.Core.Bool.{Bool, true, false, ◌&&◌, ◌||◌}
use mathlib.Core.Path.{◌≡◌, refl}
use Prim.Native.Nat.{ℕ, ◌+◌, ◌*◌, ◌≤◌, ◌<◌}
use lib.Dec.{eqb, leb}
use lib.ListN.{get_or}
use borrow.Author.Tests.{leb-true}
use Rattle.sums.specs.Sum.{all}
use Rattle.sums.proofs.Choices.{and_left, and_right, or_else}
use Rattle.sums.proofs.Sums.{all-at}
use Rattle.currency.specs.declared.Side.{Side}
use Rattle.currency.specs.declared.Side.TheVariants.{Futures, Short, Long, Spread}
use Rattle.currency.specs.Rates.{none, rates, column_of, rate_of}
use Rattle.currency.specs.Charges.{is_option}

-- of one product: futures have a rate of at most 750, and options have one or the mark for none
abbrev bounded : ℕ → Bool
bounded k = leb (get_or rates (2 * k + 0) 0) 750 && (eqb (get_or rates (2 * k + 1) 0) none || leb (get_or rates (2 * k + 1) 0) 750)

-- the one test
all-bounded : all 10 bounded ≡ true
unfolding all rates
all-bounded = refl

-- so every side has a rate of at most 750, but for an option that is not listed
pub rate-most : (k : ℕ) (side : Side) → k < 10 → (is_option side && eqb (rate_of k side) none) ≡ false → rate_of k side ≤ 750
unfolding rate_of
rate-most k side l listed = by side listed
  where
    row : bounded k ≡ true
    row = all-at 10 bounded all-bounded k l

    futures : get_or rates (2 * k + 0) 0 ≤ 750
    futures = leb-true _ 750 (and_left _ _ row)

    options : eqb (get_or rates (2 * k + 1) 0) none ≡ false → get_or rates (2 * k + 1) 0 ≤ 750
    options h = leb-true _ 750 (or_else _ _ (and_right (leb (get_or rates (2 * k + 0) 0) 750) _ row) h)

    by : (side : Side) → (is_option side && eqb (get_or rates (2 * k + column_of side) 0) none) ≡ false → get_or rates (2 * k + column_of side) 0 ≤ 750
    by Futures h = futures
    by Short h = options h
    by Long h = options h
    by Spread h = futures
