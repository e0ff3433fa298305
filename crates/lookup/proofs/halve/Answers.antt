-- `lookup::halve` meets its contract.
use borrow.Author.Tests.{ltb-true, ltb-false, lt-ltb}
use Rattle.sums.proofs.Choices.{and_split, and-fails}
use Rattle.lookup.proofs.Places.{near_up, near-stay}
use Rattle.lookup.proofs.halve.Goals as goal

pub returns-then-up : goal.returns-then-up
returns-then-up c =
    let start = c in
    let a = start.args in
    let t = and_split _ _ c.if-up.true in
    near_up a.numbers.now a.top a.n start.requires.0 a.lo a.step start.requires.2 start.requires.1 (ltb-true _ _ t.0) (ltb-true _ _ t.1)

pub returns-else-up : goal.returns-else-up
returns-else-up c =
    let start = c in
    let a = start.args in
    near-stay a.numbers.now a.top a.n start.requires.0 a.lo a.step start.requires.2 start.requires.1
    (λ l. ltb-false _ _ (and-fails (lt-ltb _ _ l) c.if-up.false))
