use Rattle.std.proofs.Common.{arith}
use Rattle.words.proofs.Putting.{account-quiet, account-told}
use Rattle.words.proofs.put.put_account.Goals as goal

pub returns-then-quiet : goal.returns-then-quiet
returns-then-quiet c = let a = c.args in record { puts = account-quiet a.quiet a.n c.if-quiet.true (omega arith); upper_bound = omega arith }

pub returns : goal.returns
returns c =
    let a = c.args in
    let e = c.put_after_space.ensures in
    record { puts = account-told a.quiet a.n c.if-quiet.false e.puts; upper_bound = e.upper_bound }
