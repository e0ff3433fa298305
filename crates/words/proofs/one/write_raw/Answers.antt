use Rattle.std.proofs.Common.{length, sym, arith}
use Rattle.words.specs.Hex.{raw_line}
use Rattle.words.proofs.Answers.{refused_all, as-put, stands, counted, raw-bad, raw-few, raw-good}
use Rattle.words.proofs.one.write_raw.Goals as goal

pub returns-then-bytes : goal.returns-then-bytes
returns-then-bytes c =
    let x = c.args.bytes.now in
    let whole = refused_all (raw_line x) _ 32 _ (sym (raw-bad (length x) c.if-bytes.true)) (λ e. omega arith) in
    record { value = whole.0; room_after = whole.1 }

pub put_raw-n-requires : goal.put_raw-n-requires
put_raw-n-requires c = omega (arith, raw-few (length c.args.bytes.now) c.if-bytes.false)

pub slice_bounds-put_all-end : goal.slice_bounds-put_all-end
slice_bounds-put_all-end c = counted c.put_raw-n.ensures

pub returns : goal.returns
returns c =
    let l = c in
    let f = l in
    let whole = as-put _ _ _ _ _ _ (stands l.put_raw-n.ensures) (raw-good (length f.args.bytes.now) f.if-bytes.false) (c.put_all.ensures.value, c.put_all.ensures.room_after) in
    record { value = whole.0; room_after = whole.1 }
