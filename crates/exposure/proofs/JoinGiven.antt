-- What is known where a joined record is given.
use mathlib.Core.Bool.{Bool, true, false}
use mathlib.Core.List.{List}
use mathlib.Core.Path.{◌≡◌, refl}
use Prim.Native.Nat.{ℕ, zero, suc, ◌≤◌}
use native.Mathlib.Omega.{arith}
use borrow.Author.Tests.{ltb-false, not-false}
use lib.Dec.{ltb}
use lib.IntN.{ℤ}
use lib.ListN.{take}
use Rattle.sums.specs.Choice.{pick, unless_refused}
use Rattle.sums.proofs.Tables.{first-fails}
use Rattle.rows.specs.Rows.{ceiling}
use Rattle.dayfile.specs.declared.Record.{Record}
use Rattle.currency.specs.declared.Position.{Position}
use Rattle.currency.specs.declared.Made.TheVariants.{Given, Refused}
use Rattle.currency.specs.Charges.{first_fault}
use Rattle.currency.specs.Margins.{margin_record}
use Rattle.exposure.specs.Exposures.{all_in_range}
use Rattle.exposure.specs.Joined.{joined_sum, refusal_of, joined_of}

-- every test was passed, and the record has the sum
pub record Joined (serial account initial : ℕ) (positions : List Position) (number : ℕ) (premium loss exercise settlement : ℤ) (r : Record) : Type 0 where
  pub ranged : all_in_range premium loss exercise settlement ≡ true
  pub within : joined_sum premium loss exercise settlement initial (take number positions) ≤ ceiling
  pub is : r ≡ margin_record serial account (joined_sum premium loss exercise settlement initial (take number positions))

-- of a choice that gives 0 where its first part doesn't
second-part : (t : Bool) (x : ℕ) → pick t 15 x ≡ 0 → x ≡ 0
unfolding pick
second-part true x e = absurd (omega arith)
second-part false x e = e

past-fault : (n x : ℕ) → unless_refused n x (λ k. k) ≡ 0 → x ≡ 0
past-fault zero x e = e
past-fault (suc n) x e = absurd (omega arith)

given-unrefused : (n : ℕ) (x r : Record) → unless_refused n (Given x) Refused ≡ Given r → (n ≡ 0) × (r ≡ x)
given-unrefused zero x r e = (refl, cc)
given-unrefused (suc n) x r e = let z : ◌≡◌ {A = ℕ} 0 1 = cc in absurd (omega arith)

pub joined : (serial account initial : ℕ) (positions : List Position) (number : ℕ) (premium loss exercise settlement : ℤ) (r : Record)
    → joined_of serial account initial positions number premium loss exercise settlement ≡ Given r
    → Joined serial account initial positions number premium loss exercise settlement r
unfolding joined_of refusal_of
joined serial account initial positions number premium loss exercise settlement r e =
    let g = given-unrefused _ _ r e in
    let last = past-fault (first_fault (take number positions)) _ (second-part (ltb 64 number) _ g.0) in
    let a = first-fails 20 _ _ (omega arith) last in
    let b = first-fails 22 _ _ (omega arith) a.1 in
    let c = first-fails 21 _ _ (omega arith) b.1 in
    record { ranged = not-false _ b.0; within = ltb-false ceiling _ c.0; is = g.1 }
