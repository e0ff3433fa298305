-- `dayfile::faults::fault_of` meets its contract.
use mathlib.Core.Path.{◌≡◌, refl, sym, ◌∙◌}
use mathlib.Core.List.{[]}
use Rattle.sums.specs.Table.{first}
use Rattle.sums.proofs.Tables.{first-here, first-later}
use Rattle.dayfile.specs.Records.{fault_of}
use borrow.Author.Tests.{not-false}
use Rattle.dayfile.proofs.faults.fault_of.Goals as goal

first-none : first [] ≡ 0
unfolding first
first-none = refl

pub returns-then-not-known_code : goal.returns-then-not-known_code
unfolding fault_of
returns-then-not-known_code c = sym (first-here 4 _ _ (rw (← c.known_code.ensures) c.if-not-known_code.true-raw))

pub suits_code-requires : goal.suits_code-requires
suits_code-requires c = sym c.known_code.ensures ∙ not-false _ c.if-not-known_code.false-raw

pub returns-then-not-suits_code : goal.returns-then-not-suits_code
unfolding fault_of
returns-then-not-suits_code c =
    sym (first-later 4 _ _ (rw (← c.known_code.ensures) c.if-not-known_code.false-raw)
    ∙ first-here 5 _ _ (rw (← c.suits_code.ensures) c.if-not-suits_code.true-raw))

pub good_amounts-requires : goal.good_amounts-requires
good_amounts-requires c =
    let k = c in
    (sym k.known_code.ensures ∙ not-false _ k.if-not-known_code.false-raw, sym c.suits_code.ensures ∙ not-false _ c.if-not-suits_code.false-raw)

pub returns-then-not-good_amounts : goal.returns-then-not-good_amounts
unfolding fault_of
returns-then-not-good_amounts c =
    sym (first-later 4 _ _ (rw (← c.known_code.ensures) c.if-not-known_code.false-raw)
    ∙ first-later 5 _ _ (rw (← c.suits_code.ensures) c.if-not-suits_code.false-raw)
    ∙ first-here 6 _ _ (rw (← c.good_amounts.ensures) c.if-not-good_amounts.true-raw))

pub returns : goal.returns
unfolding fault_of
returns c =
    sym (first-later 4 _ _ (rw (← c.known_code.ensures) c.if-not-known_code.false-raw)
    ∙ first-later 5 _ _ (rw (← c.suits_code.ensures) c.if-not-suits_code.false-raw)
    ∙ first-later 6 _ _ (rw (← c.good_amounts.ensures) c.if-not-good_amounts.false-raw)
    ∙ first-none)
