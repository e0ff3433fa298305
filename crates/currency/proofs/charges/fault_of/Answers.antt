-- `currency::charges::fault_of` meets its contract.
use mathlib.Core.Bool.{◌&&◌}
use mathlib.Core.List.{[]}
use mathlib.Core.Path.{◌≡◌, refl, sym, ap₂, ◌∙◌}
use borrow.Author.Tests.{le-leb, lt-leb, lt-ltb, le-ltb}
use lib.Dec.{eqb}
use Rattle.sums.specs.Table.{first}
use Rattle.sums.proofs.Tables.{first-here, first-later}
use Rattle.currency.specs.Rates.{none}
use Rattle.currency.specs.Charges.{fault_of}
use Rattle.currency.proofs.charges.fault_of.Goals as goal

first-none : first [] ≡ 0
unfolding first
first-none = refl

pub returns-then-position-ge-PRODUCTS : goal.returns-then-position-ge-PRODUCTS
unfolding fault_of
returns-then-position-ge-PRODUCTS c = sym (first-here 18 _ _ (le-leb _ _ c.if-position-ge-PRODUCTS.true))

pub returns-then-is_option-rate : goal.returns-then-is_option-rate
unfolding fault_of
returns-then-is_option-rate c =
    let r = c in
    let o = r in
    let e = ap₂ (λ a b. a && eqb b none) o.is_option.ensures r.rate.ensures in
    sym (first-later 18 _ _ (lt-leb _ _ o.if-position-ge-PRODUCTS.false) ∙ first-here 19 _ _ (sym e ∙ c.if-is_option-rate.true))

pub returns-then-position-gt-CEILING : goal.returns-then-position-gt-CEILING
unfolding fault_of
returns-then-position-gt-CEILING c =
    let i = c in
    let r = i in
    let o = r in
    let e = ap₂ (λ a b. a && eqb b none) o.is_option.ensures r.rate.ensures in
    sym (first-later 18 _ _ (lt-leb _ _ o.if-position-ge-PRODUCTS.false) ∙ first-later 19 _ _ (sym e ∙ i.if-is_option-rate.false) ∙ first-here 20 _ _ (lt-ltb _ _ c.if-position-gt-CEILING.true))

pub returns : goal.returns
unfolding fault_of
returns c =
    let i = c in
    let r = i in
    let o = r in
    let e = ap₂ (λ a b. a && eqb b none) o.is_option.ensures r.rate.ensures in
    sym (first-later 18 _ _ (lt-leb _ _ o.if-position-ge-PRODUCTS.false) ∙ first-later 19 _ _ (sym e ∙ i.if-is_option-rate.false) ∙ first-later 20 _ _ (le-ltb _ _ c.if-position-gt-CEILING.false) ∙ first-none)
