use Rattle.std.proofs.Common.{◌≤◌, length, ap, sym, arith}
use lib.Seq.{length-take-le}
use Rattle.merging.specs.declared.Merged.{Merged}
use Rattle.merging.proofs.Answers.{within-room}
use Rattle.merge.proofs.merge.Goals as goal

pub shared_ref_as_front-write_output : goal.shared_ref_as_front-write_output
shared_ref_as_front-write_output c =
    omega (arith, ap (λ (x : Merged). x.length) c.merge-merged.ensures.value, within-room c.args.a.now c.args.b.now c.args.next c.args.room.now)

pub slice_bounds-write_output-end-2 : goal.slice_bounds-write_output-end-2
slice_bounds-write_output-end-2 c =
    let m = c.merge-merged in
    let f : m.result.length ≤ length m.new.room = omega (arith, ap (λ (x : Merged). x.length) m.ensures.value, within-room c.args.a.now c.args.b.now c.args.next c.args.room.now, m.auto.room) in
    sym (length-take-le _ _ f)
