-- What is known where a record is given, and of the record itself.
use mathlib.Core.Bool.{Bool, true, false}
use mathlib.Core.List.{List}
use mathlib.Core.Path.{◌≡◌, refl}
use Prim.Native.Nat.{ℕ, ◌≤◌, ◌<◌, ◌^◌}
use native.Mathlib.Decide.{ℕ_discrete}
use native.Mathlib.Omega.{arith}
use borrow.Author.Tests.{ltb-true, ltb-false, le-leb}
use lib.Dec.{ltb}
use lib.ListN.{take}
use Rattle.sums.specs.Choice.{pick}
use Rattle.sums.specs.Table.{first}
use Rattle.rows.specs.Rows.{ceiling}
use Rattle.dayfile.specs.declared.Record.{Record}
use Rattle.dayfile.specs.Records.{fault_of as fault_in}
use Rattle.dayfile.specs.Files.{WordsFit}
use Rattle.currency.specs.declared.Position.{Position}
use Rattle.currency.specs.declared.Made.{Made}
use Rattle.currency.specs.declared.Made.TheVariants.{Given, Refused}
use Rattle.currency.specs.Charges.{first_fault}
use Rattle.currency.specs.Margins.{sum_of, margin_record, made_of}
use Rattle.currency.proofs.Making.{too_many, at-fault, initial-past, sum_past, sum-within}

-- a record is no refusal
given-not-refused : {A : Type 0} (m : Made) (r : Record) (n : ℕ) → m ≡ Given r → m ≡ Refused n → A
given-not-refused m r n p q = let z : ◌≡◌ {A = ℕ} 0 1 = cc in absurd (omega arith)

-- every test was passed, and the record has the sum
pub record Passed (serial account initial : ℕ) (positions : List Position) (number : ℕ) (r : Record) : Type 0 where
  pub few : number ≤ 64
  pub faultless : first_fault (take number positions) ≡ 0
  pub start : initial ≤ ceiling
  pub within : sum_of initial (take number positions) ≤ ceiling
  pub is : r ≡ margin_record serial account (sum_of initial (take number positions))

module _ (serial account initial : ℕ) (positions : List Position) (number : ℕ) (r : Record) (e : made_of serial account initial positions number ≡ Given r) where
  refused-not : {A : Type 0} {n : ℕ} → made_of serial account initial positions number ≡ Refused n → A
  refused-not {n = n} q = given-not-refused (made_of serial account initial positions number) r n e q

  few : number ≤ 64
  few = by (ltb 64 number) refl
    where
      by : (t : Bool) → ltb 64 number ≡ t → number ≤ 64
      by false q = ltb-false 64 number q
      by true q = refused-not (too_many serial account initial positions number (ltb-true 64 number q))

  no-fault : first_fault (take number positions) ≡ 0
  no-fault = by (ℕ_discrete (first_fault (take number positions)) 0)
    where
      by : Dec (first_fault (take number positions) ≡ 0) → first_fault (take number positions) ≡ 0
      by (yes q) = q
      by (no q) = refused-not (at-fault serial account initial positions number few q)

  start : initial ≤ ceiling
  start = by (ltb ceiling initial) refl
    where
      by : (t : Bool) → ltb ceiling initial ≡ t → initial ≤ ceiling
      by false q = ltb-false ceiling initial q
      by true q = refused-not (initial-past serial account initial positions number few no-fault (ltb-true ceiling initial q))

  within : sum_of initial (take number positions) ≤ ceiling
  within = by (ltb ceiling (sum_of initial (take number positions))) refl
    where
      by : (t : Bool) → ltb ceiling (sum_of initial (take number positions)) ≡ t → sum_of initial (take number positions) ≤ ceiling
      by false q = ltb-false ceiling _ q
      by true q = refused-not (sum_past serial account initial positions number few no-fault start (ltb-true ceiling _ q))

  pub passed : Passed serial account initial positions number r
  passed =
      let q = sum-within serial account initial positions number few no-fault start within in
      record { few = few; faultless = no-fault; start = start; within = within; is = cc }

-- the record that sets a margin up to the ceiling is good
pub margin-good : (serial account m : ℕ) → m ≤ ceiling → fault_in (margin_record serial account m) ≡ 0
unfolding fault_in first pick
margin-good serial account m h =
    let low = le-leb 0 m (omega arith) in
    let high = le-leb m ceiling h in
    rw (low, high)

pub margin-fits : (serial account m : ℕ) → serial < 2 ^ 16 → account < 2 ^ 16 → WordsFit (margin_record serial account m)
margin-fits serial account m s a = record { serial = s; code = omega arith; named = omega arith; account = a }
