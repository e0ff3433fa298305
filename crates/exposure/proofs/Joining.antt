-- K9's answer joined with an exposure is the answer that K10's table gives.
use mathlib.Core.Bool.{Bool, true, false, not}
use mathlib.Core.List.{List, [], ◌∷◌}
use mathlib.Core.Path.{◌≡◌, refl, sym, ap, ◌∙◌}
use Prim.Native.Nat.{ℕ, zero, suc, ◌+◌, ◌≤◌}
use native.Mathlib.Omega.{arith}
use borrow.Author.Tests.{ltb-true, lt-ltb, ne_eqb, leb-true}
use lib.Dec.{leb, ltb}
use lib.IntN.{ℤ}
use lib.ListN.{take}
use Rattle.sums.specs.Choice.{pick, unless_refused}
use Rattle.sums.specs.Table.{◌when◌, first}
use Rattle.sums.proofs.Tables.{first_passes}
use Rattle.rows.specs.Rows.{ceiling}
use Rattle.currency.specs.declared.Position.{Position}
use Rattle.currency.specs.declared.Made.{Made}
use Rattle.currency.specs.declared.Made.TheVariants.{Given, Refused}
use Rattle.currency.specs.Charges.{faults, fault_of, first_fault}
use Rattle.currency.specs.Margins.{sum_of, margin_record, refusal_of as margin_refusal, made_of, number_made}
use Rattle.currency.proofs.Given.{passed}
use Rattle.currency.proofs.Numbers.{number-made}
use Rattle.exposure.specs.Exposures.{all_in_range, total_of, payable_of, exposure_of}
use Rattle.exposure.specs.Joined.{joined_sum, refusal_of, joined_of}
use Rattle.exposure.specs.Inner.{Bounded, with_exposure}
use Rattle.exposure.proofs.Parts.{four-within}

-- a position's fault is none of 21 and 22
pub fault-most : (p : Position) → fault_of p ≤ 20
unfolding fault_of
fault-most p = leb-true (first (faults p)) 20 (first_passes (λ n. leb n 20) (faults p) refl)

first-fault-most : (l : List Position) → first_fault l ≤ 20
unfolding first_fault
first-fault-most [] = omega arith
first-fault-most (p ∷ rest) = by (fault_of p) (fault-most p) (first-fault-most rest)
  where
    by : (n : ℕ) → n ≤ 20 → first_fault rest ≤ 20 → unless_refused n (first_fault rest) (λ k. k) ≤ 20
    by zero h k = k
    by (suc n) h k = h

-- the table's tests one after the other: 15, the first fault, 20, whether the figures are in range, 21 by K9's sum, 21 by the sum of both
module _ (serial account sum amount : ℕ) where
  table : (many : Bool) (fault : ℕ) (start ranged own both : Bool) → fault ≤ 20 → ltb ceiling (sum + amount) ≡ both → (own ≡ true → both ≡ true)
      → with_exposure
      (unless_refused (pick many 15 (unless_refused fault (first ((20 when start) ∷ (21 when own) ∷ [])) (λ n. n))) (Given (margin_record serial account sum)) Refused)
      (pick ranged 0 22) amount
      ≡ unless_refused
      (pick many 15 (unless_refused fault (first ((20 when start) ∷ (22 when not ranged) ∷ (21 when both) ∷ [])) (λ n. n)))
      (Given (margin_record serial account (sum + amount)))
      Refused
  unfolding pick first
  table true fault start ranged own both h e s = refl
  table false (suc n) start ranged own both h e s = rw (ne_eqb (suc n) 21 (λ q. absurd (omega arith)))
  table false zero true ranged own both h e s = refl
  table false zero false false true both h e s = refl
  table false zero false false false both h e s = refl
  table false zero false true true both h e s = rw (s refl)
  table false zero false true false both h e s = by both e
    where
      by : (t : Bool) → ltb ceiling (sum + amount) ≡ t
          → pick (ltb ceiling (sum + amount)) (Refused 21) (Given (margin_record serial account (sum + amount)))
          ≡ unless_refused (pick t 21 0) (Given (margin_record serial account (sum + amount))) Refused
      by true q = rw q
      by false q = rw q

-- what K9 made has a margin up to the ceiling
pub made-bounded : (serial account initial : ℕ) (positions : List Position) (number : ℕ) (m : Made) → m ≡ made_of serial account initial positions number → Bounded m
made-bounded serial account initial positions number (Given r) e =
    let p = passed serial account initial positions number r (sym e) in
    omega (arith, p.within, ap (λ x. x.margin) p.is)
made-bounded serial account initial positions number (Refused n) e = tt

-- with 22 the amount doesn't count
no-amount : (m : Made) (x y : ℕ) → with_exposure m 22 x ≡ with_exposure m 22 y
unfolding pick
no-amount (Given r) x y = refl
no-amount (Refused n) x y = refl

module _ (premium loss exercise settlement : ℤ) where
  -- a client's amount, by whether its figures are in range
  in-range-is : all_in_range premium loss exercise settlement ≡ true
      → exposure_of premium loss exercise settlement ≡ record { refusal = 0; amount = payable_of (total_of premium loss exercise settlement) }
  unfolding exposure_of pick
  in-range-is e = rw e

  out-of-range-is : all_in_range premium loss exercise settlement ≡ false → exposure_of premium loss exercise settlement ≡ record { refusal = 22; amount = 0 }
  unfolding exposure_of pick
  out-of-range-is e = rw e

  pub amount-most : (exposure_of premium loss exercise settlement).amount ≤ ceiling + ceiling + ceiling + ceiling
  amount-most = by (all_in_range premium loss exercise settlement) refl
    where
      by : (t : Bool) → all_in_range premium loss exercise settlement ≡ t → (exposure_of premium loss exercise settlement).amount ≤ ceiling + ceiling + ceiling + ceiling
      by true e = rw (in-range-is e) (four-within premium loss exercise settlement e).payable
      by false e = rw (out-of-range-is e) (omega arith)

  module _ (serial account initial : ℕ) (positions : List Position) (number : ℕ) where
    by-the-table : (t : Bool) → all_in_range premium loss exercise settlement ≡ t
        → with_exposure (made_of serial account initial positions number) (pick t 0 22) (payable_of (total_of premium loss exercise settlement))
        ≡ joined_of serial account initial positions number premium loss exercise settlement
    unfolding made_of margin_refusal refusal_of joined_of joined_sum
    by-the-table t e =
        let sum = sum_of initial (take number positions) in
        rw e
        (table serial account sum (payable_of (total_of premium loss exercise settlement)) (ltb 64 number) (first_fault (take number positions)) (ltb ceiling initial) t
        (ltb ceiling sum) (ltb ceiling (sum + payable_of (total_of premium loss exercise settlement))) (first-fault-most (take number positions)) refl
        (λ q. lt-ltb ceiling (sum + payable_of (total_of premium loss exercise settlement)) (omega (arith, ltb-true ceiling sum q))))

    pub joined_is : with_exposure (made_of serial account initial positions number) (exposure_of premium loss exercise settlement).refusal (exposure_of premium loss exercise settlement).amount
        ≡ joined_of serial account initial positions number premium loss exercise settlement
    unfolding pick
    joined_is = by (all_in_range premium loss exercise settlement) refl
      where
        by : (t : Bool) → all_in_range premium loss exercise settlement ≡ t
            → with_exposure (made_of serial account initial positions number) (exposure_of premium loss exercise settlement).refusal (exposure_of premium loss exercise settlement).amount
            ≡ joined_of serial account initial positions number premium loss exercise settlement
        by true e = rw (in-range-is e) (by-the-table true e)
        by false e = rw (out-of-range-is e) (no-amount (made_of serial account initial positions number) 0 (payable_of (total_of premium loss exercise settlement)) ∙ by-the-table false e)

    -- and its number is that table's refusal
    pub joined-named : (m : Made) → m ≡ joined_of serial account initial positions number premium loss exercise settlement
        → (m ≡ joined_of serial account initial positions number premium loss exercise settlement) × (number_made m ≡ refusal_of premium loss exercise settlement initial positions number)
    unfolding joined_of
    joined-named m e = (e, ap number_made e ∙ number-made (refusal_of premium loss exercise settlement initial positions number) _)
