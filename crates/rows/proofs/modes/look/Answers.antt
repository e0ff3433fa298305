-- `rows::modes::look` meets its contract.
use mathlib.Core.Bool.{true, false, ◌||◌}
use mathlib.Core.Path.{◌≡◌}
use lib.Dec.{eqb}
use borrow.Author.Tests.{not-true, not-false}
use Rattle.rows.proofs.modes.look.Goals as goal

pub returns-then-not-i-a : goal.returns-then-not-i-a
returns-then-not-i-a c =
    let a = c.args in
    let e : (eqb a.i 0 || eqb a.a.sort 1) ≡ false = not-true _ c.if-not-i-a.true-raw in
    rw e

pub returns : goal.returns
returns c =
    let n = c in
    let a = n.args in
    let e : (eqb a.i 0 || eqb a.a.sort 1) ≡ true = not-false _ n.if-not-i-a.false-raw in
    rw e c.mode_after.ensures
