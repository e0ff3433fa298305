-- `archives::end_line` meets its contract.
use native.Mathlib.Omega.{arith}
use Rattle.archives.proofs.Held.{none-ended, was-ended, then-ended}
use Rattle.archives.proofs.end_line.Goals as goal

pub returns-then-n-eq0 : goal.returns-then-n-eq0
returns-then-n-eq0 c =
    let a = c.args in
    record { holds = none-ended a.room.now a.n c.if-n-eq0.true (omega arith); upper_bound = omega arith }

pub returns-then-room-n-eq10 : goal.returns-then-room-n-eq10
returns-then-room-n-eq10 c =
    let a = c.args in
    record { holds = was-ended a.room.now a.n (omega arith) (omega arith) c.if-room-n-eq10.true; upper_bound = omega arith }

pub returns : goal.returns
returns c =
    let a = c.args in
    record { holds = then-ended a.room.now a.n (omega arith) (omega arith) c.if-room-n-eq10.false; upper_bound = omega arith }
