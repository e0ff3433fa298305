use Rattle.std.proofs.Common.{sym, ◌∙◌, arith}
use Rattle.words.proofs.Answers.{refused_all, as-put, stands, counted}
use Rattle.words.proofs.Lines.{known}
use Rattle.words.proofs.one.write_line.Goals as goal

pub returns-then-fault-ne0 : goal.returns-then-fault-ne0
returns-then-fault-ne0 c =
    let whole = refused_all _ _ _ _ c.fault_of-fault.ensures c.if-fault-ne0.true in
    record { value = whole.0; room_after = whole.1 }

pub put_line-n-requires : goal.put_line-n-requires
put_line-n-requires c =
    let k = known _ (sym c.fault_of-fault.ensures ∙ c.if-fault-ne0.false) in
    (k.0, k.1, omega arith)

pub slice_bounds-put_all-end : goal.slice_bounds-put_all-end
slice_bounds-put_all-end c = counted c.put_line-n.ensures.puts

pub returns : goal.returns
returns c =
    let l = c in
    let f = l in
    let whole = as-put _ _ _ _ _ _ (stands l.put_line-n.ensures.puts) (sym f.fault_of-fault.ensures ∙ f.if-fault-ne0.false) (c.put_all.ensures.value, c.put_all.ensures.room_after) in
    record { value = whole.0; room_after = whole.1 }
