use Rattle.std.proofs.Common.{sym, arith, length-take-le}
use Rattle.words.proofs.Answers.{held-written, held-refused, line-put, line_refused}
use Rattle.words.proofs.one.bytes_of_line.Goals as goal

pub slice_bounds-bytes-end : goal.slice_bounds-bytes-end
slice_bounds-bytes-end c =
    let n = c in
    let b = n in
    omega (arith, (held-written _ _ _ _ b.bytes_meant.ensures n.in-Written.is).1, b.bytes_meant.auto)

pub slice_bounds-put_all-end : goal.slice_bounds-put_all-end
slice_bounds-put_all-end c =
    let n = c in
    let b = n in
    sym (length-take-le _ _ (omega (arith, (held-written _ _ _ _ b.bytes_meant.ensures n.in-Written.is).1, b.bytes_meant.auto)))

pub returns-in-Written : goal.returns-in-Written
returns-in-Written c =
    let n = c in
    let whole = line-put _ _ _ _ _ (held-written _ _ _ _ n.bytes_meant.ensures n.in-Written.is).0 (c.put_all.ensures.value, c.put_all.ensures.room_after) in
    record { value = whole.0; room_after = whole.1 }

pub returns-in-Refused : goal.returns-in-Refused
returns-in-Refused c = let f = c in
    let whole = line_refused _ (held-refused _ _ _ _ f.bytes_meant.ensures f.in-Refused.is) in
    record { value = whole.0; room_after = whole.1 }
