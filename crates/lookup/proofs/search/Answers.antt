-- `lookup::search` meets its contract.
use mathlib.Core.Path.{sym}
use native.Mathlib.Omega.{arith}
use borrow.Author.Tests.{ltb-true, lt-ltb, eqb-true, eqb-false}
use Rattle.sums.proofs.Choices.{and_split, and-fails}
use Rattle.lookup.proofs.Places.{place_is, near_none}
use Rattle.lookup.proofs.search.Goals as goal

pub halve-a-requires : goal.halve-a-requires
halve-a-requires c = (c.requires, record { inside = omega arith; there = λ j l e. (omega arith, omega (arith, c.requires.most)) }, omega arith)

pub overflow_cast-result : goal.overflow_cast-result
overflow_cast-result c = omega (arith, c.halve-h.ensures.inside)

pub returns-then-h-top : goal.returns-then-h-top
returns-then-h-top c =
    let start = c in
    let a = start.args in
    let t = and_split _ _ c.if-h-top.true in
    sym (place_is a.numbers.now a.count a.n start.requires _ (ltb-true _ _ t.0) (eqb-true _ _ t.1))

pub returns-else-h-top : goal.returns-else-h-top
returns-else-h-top c =
    let start = c in
    let a = start.args in
    sym (near_none a.numbers.now a.count a.n c.halve-h.result c.halve-h.ensures
    (λ l e. eqb-false _ _ (and-fails (lt-ltb _ _ l) c.if-h-top.false) e))
