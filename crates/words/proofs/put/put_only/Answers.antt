use Rattle.std.proofs.Common.{arith}
use Rattle.words.proofs.Putting.{only-quiet, only-told}
use Rattle.words.proofs.put.put_only.Goals as goal

pub returns-then-wanted : goal.returns-then-wanted
returns-then-wanted c =
    let a = c.args in
    let e = c.put_after_space.ensures in
    record { puts = only-told a.wanted a.x c.if-wanted.true e.puts; upper_bound = e.upper_bound }

pub returns : goal.returns
returns c = let a = c.args in record { puts = only-quiet a.wanted a.x c.if-wanted.false (omega arith); upper_bound = omega arith }
