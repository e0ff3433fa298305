use Rattle.std.proofs.Common.{take, length, sym, ◌∙◌, arith}
use lib.Seq.{length-take-le, get_or-take}
use Rattle.sums.proofs.Lists.{list-is}
use Rattle.closeouts.proofs.losses.Losses.row_losses.Goals as goal

pub returns : goal.returns
returns c =
    let l = c.loop-i in
    let n = length c.args.rows.now in
    sym (list-is _ n 0 (take n l.list) (length-take-le n l.list (omega (arith, c.requires.0, l.invariant.0))) (λ j q. get_or-take n l.list j 0 q ∙ l.invariant.1 j (omega (arith, q, c.loop-i-test.false))))
