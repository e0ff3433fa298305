-- Options: long ones carry nothing, and those of the last two products are not listed, short and long alike.
use mathlib.Core.Bool.{Bool, true, false, not, ◌||◌}
use mathlib.Core.List.{[], ◌∷◌}
use mathlib.Core.Logic.{◌⊎◌, inl, inr}
use mathlib.Core.Path.{◌≡◌, refl, ap}
use Prim.Native.Nat.{ℕ, ◌+◌, ◌*◌, ◌≤◌, ◌<◌}
use native.Mathlib.Decide.{ℕ_discrete}
use native.Mathlib.Omega.{arith}
use borrow.Author.Tests.{leb-true, leb-false}
use lib.Dec.{eqb, leb, ltb}
use lib.ListN.{get_or}
use Rattle.sums.specs.Choice.{pick}
use Rattle.sums.specs.Sum.{all}
use Rattle.sums.specs.Table.{◌when◌, first}
use Rattle.sums.proofs.Choices.{and_split, or_else, test-clash}
use Rattle.sums.proofs.Sums.{all-at}
use Rattle.rows.specs.Rows.{ceiling}
use Rattle.currency.specs.declared.Side.{Side}
use Rattle.currency.specs.declared.Side.TheVariants.{Futures, Short, Long, Spread}
use Rattle.currency.specs.declared.Position.{Position}
use Rattle.currency.specs.Rates.{none, rates, column_of, rate_of}
use Rattle.currency.specs.Charges.{is_option, fault_of, charge_of}

-- "Long options carry none."
pub long-carries-none : (p : Position) → p.side ≡ Long → charge_of p ≡ 0
unfolding charge_of
long-carries-none p e = rw e (omega arith)

-- of one product: its options are listed, or it is one of the last two
abbrev listed : ℕ → Bool
listed k = not (eqb (get_or rates (2 * k + 1) 0) none) || leb 8 k

all_listed : all 10 listed ≡ true
unfolding all rates
all_listed = refl

option-sides : (s : Side) → is_option s ≡ true → ((s ≡ Short) ⊎ (s ≡ Long)) × (column_of s ≡ 1)
option-sides Futures e = test-clash e refl
option-sides Short e = (inl refl, refl)
option-sides Long e = (inr refl, refl)
option-sides Spread e = test-clash e refl

-- the second line decides where the number is 19
at-19 : (s t u : Bool) → first ((18 when s) ∷ (19 when t) ∷ (20 when u) ∷ []) ≡ 19 → (s ≡ false) × (t ≡ true)
unfolding first pick
at-19 true t u e = absurd (omega arith)
at-19 false true u e = (refl, refl)
at-19 false false true e = absurd (omega arith)
at-19 false false false e = absurd (omega arith)

pub unlisted-is : (p : Position) → fault_of p ≡ 19 → ((p.side ≡ Short) ⊎ (p.side ≡ Long)) × ((p.product ≡ 8) ⊎ (p.product ≡ 9))
unfolding fault_of rate_of
unlisted-is p e =
    let tests = at-19 (leb 10 p.product) _ (ltb ceiling p.notional) e in
    let known = leb-false 10 p.product tests.0 in
    let option = and_split (is_option p.side) _ tests.1 in
    let side = option-sides p.side option.0 in
    let no-rate : eqb (get_or rates (2 * p.product + 1) 0) none ≡ true = rw side.1 at option.1 in
    (side.0, last-two known (leb-true 8 p.product (or_else _ _ (all-at 10 listed all_listed p.product known) (ap not no-rate))))
  where
    last-two : p.product < 10 → 8 ≤ p.product → (p.product ≡ 8) ⊎ (p.product ≡ 9)
    last-two l h = by (ℕ_discrete p.product 8)
      where
        by : Dec (p.product ≡ 8) → (p.product ≡ 8) ⊎ (p.product ≡ 9)
        by (yes q) = inl q
        by (no q) = inr (omega arith)

pub is-unlisted : (p : Position) → (p.side ≡ Short) ⊎ (p.side ≡ Long) → (p.product ≡ 8) ⊎ (p.product ≡ 9) → fault_of p ≡ 19
unfolding fault_of first pick rate_of rates
is-unlisted p (inl s) (inl k) = rw (s, k)
is-unlisted p (inl s) (inr k) = rw (s, k)
is-unlisted p (inr s) (inl k) = rw (s, k)
is-unlisted p (inr s) (inr k) = rw (s, k)
