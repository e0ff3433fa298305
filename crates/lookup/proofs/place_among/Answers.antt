-- `lookup::place_among` meets its contract.
use mathlib.Core.Path.{sym}
use Rattle.lookup.proofs.Places.{place_is}
use Rattle.lookup.proofs.place_among.Goals as goal

pub returns-then-numbers-n : goal.returns-then-numbers-n
returns-then-numbers-n c =
    let start = c in
    let a = start.args in
    sym (place_is a.numbers.now a.count a.n start.requires a.n c.if-n-count.true c.if-numbers-n.true)
