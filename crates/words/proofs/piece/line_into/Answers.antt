use Rattle.std.proofs.Common.{sym, arith, length-take-le}
use Rattle.words.proofs.Answers.{held-written, held-refused}
use Rattle.words.proofs.Taking.{line-went, line-failed}
use Rattle.words.proofs.piece.line_into.Goals as goal

pub slice_bounds-bytes-end : goal.slice_bounds-bytes-end
slice_bounds-bytes-end c =
    let n = c in
    let b = n in
    omega (arith, (held-written _ _ _ _ b.bytes_meant.ensures n.in-Written.is).1, b.bytes_meant.auto)

pub slice_bounds-put_text-end : goal.slice_bounds-put_text-end
slice_bounds-put_text-end c =
    let n = c in
    let b = n in
    sym (length-take-le _ _ (omega (arith, (held-written _ _ _ _ b.bytes_meant.ensures n.in-Written.is).1, b.bytes_meant.auto)))

pub put_text-after-requires : goal.put_text-after-requires
put_text-after-requires c =
    let n = c in
    let b = n in
    let h = (held-written _ _ _ _ b.bytes_meant.ensures n.in-Written.is).1 in
    omega (arith, length-take-le n.in-Written.n b.bytes_meant.new.room (omega (arith, b.bytes_meant.auto)))

pub slice_bounds-bytes-end-in-Written : goal.slice_bounds-bytes-end-in-Written
slice_bounds-bytes-end-in-Written c =
    let n = c in
    let b = n in
    omega (arith, (held-written _ _ _ _ b.bytes_meant.ensures n.in-Written.is).1, b.bytes_meant.auto)

pub slice_bounds-moved-end : goal.slice_bounds-moved-end
slice_bounds-moved-end c =
    let n = c in
    let b = n in
    sym (length-take-le _ _ (omega (arith, (held-written _ _ _ _ b.bytes_meant.ensures n.in-Written.is).1, b.bytes_meant.auto)))

pub returns-in-Written : goal.returns-in-Written
returns-in-Written c =
    let p = c in
    let n = p in
    line-went _ _ _ _ _ _ _ _ (held-written _ _ _ _ n.bytes_meant.ensures n.in-Written.is).0 p.put_text-after.ensures c.moved-next.ensures

pub returns-in-Refused : goal.returns-in-Refused
returns-in-Refused c = let f = c in line-failed _ _ _ _ _ (held-refused _ _ _ _ f.bytes_meant.ensures f.in-Refused.is)
