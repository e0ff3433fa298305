use Rattle.std.proofs.Common.{◌≡◌, arith}
use Rattle.words.proofs.put.put_code.Goals as goal

pub returns-in-1 : goal.returns-in-1
returns-in-1 c = let e = c.put_text.ensures in record { puts = rw c.in-1.is e; upper_bound = omega (arith, e.next) }

pub returns-in-2 : goal.returns-in-2
returns-in-2 c = let e = c.put_text-in-2.ensures in record { puts = rw c.in-2.is e; upper_bound = omega (arith, e.next) }

pub returns-in-3 : goal.returns-in-3
returns-in-3 c = let e = c.put_text-in-3.ensures in record { puts = rw c.in-3.is e; upper_bound = omega (arith, e.next) }

pub returns-in-4 : goal.returns-in-4
returns-in-4 c = let e = c.put_text-in-4.ensures in record { puts = rw c.in-4.is e; upper_bound = omega (arith, e.next) }

pub returns-in-5 : goal.returns-in-5
returns-in-5 c = let e = c.put_text-in-5.ensures in record { puts = rw c.in-5.is e; upper_bound = omega (arith, e.next) }

pub returns-in-6 : goal.returns-in-6
returns-in-6 c = let e = c.put_text-in-6.ensures in record { puts = rw c.in-6.is e; upper_bound = omega (arith, e.next) }

pub returns-in-7 : goal.returns-in-7
returns-in-7 c = let e = c.put_text-in-7.ensures in record { puts = rw c.in-7.is e; upper_bound = omega (arith, e.next) }

pub returns-in-8 : goal.returns-in-8
returns-in-8 c = let e = c.put_text-in-8.ensures in record { puts = rw c.in-8.is e; upper_bound = omega (arith, e.next) }

pub returns-in-9 : goal.returns-in-9
returns-in-9 c = let e = c.put_text-in-9.ensures in record { puts = rw c.in-9.is e; upper_bound = omega (arith, e.next) }

pub returns-in-10 : goal.returns-in-10
returns-in-10 c = let e = c.put_text-in-10.ensures in record { puts = rw c.in-10.is e; upper_bound = omega (arith, e.next) }

pub returns-in-11 : goal.returns-in-11
returns-in-11 c = let e = c.put_text-in-11.ensures in record { puts = rw c.in-11.is e; upper_bound = omega (arith, e.next) }

pub returns-in-12 : goal.returns-in-12
returns-in-12 c = let e = c.put_text-in-12.ensures in record { puts = rw c.in-12.is e; upper_bound = omega (arith, e.next) }

pub returns-in_default : goal.returns-in_default
returns-in_default c =
    let e = c.put_text-in_default.ensures in
    let k : c.args.code ≡ 13 = omega arith in
    record { puts = rw k e; upper_bound = omega (arith, e.next) }
