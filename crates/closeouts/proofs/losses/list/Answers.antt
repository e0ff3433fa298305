use Rattle.std.proofs.Common.{length, length-set, ◌∙◌, arith}
use Rattle.sums.proofs.Lists.{filled-step}
use Rattle.closeouts.specs.Losses.{loss_in}
use Rattle.closeouts.proofs.LossFile.{count-within, first-places}
use Rattle.closeouts.proofs.losses.list.Goals as goal

pub overflow_mul-i : goal.overflow_mul-i
overflow_mul-i c =
    let l = c.loop-i in
    let most = count-within (length c.args.bytes.now) in
    record { fits = omega (arith, l.invariant.0, most, c.loop-i-test.true) }

pub number8-requires : goal.number8-requires
number8-requires c =
    let l = c.loop-i in
    let most = count-within (length c.args.bytes.now) in
    omega (arith, l.invariant.0, most, c.loop-i-test.true)

pub offset_bounds-list-i : goal.offset_bounds-list-i
offset_bounds-list-i c =
    let l = c.loop-i in
    let most = count-within (length c.args.bytes.now) in
    record { fits = omega (arith, l.invariant.0, most, c.loop-i-test.true) }

pub bounds-list-i : goal.bounds-list-i
bounds-list-i c =
    let l = c.loop-i in
    let most = count-within (length c.args.bytes.now) in
    omega (arith, l.invariant.0, most, c.loop-i-test.true)

pub loop-i-preserved : goal.loop-i-preserved
loop-i-preserved c =
    let l = c.loop-i in
    let most = count-within (length c.args.bytes.now) in (
      l.invariant.0,
      length-set l.list l.i c.number8.result ∙ l.invariant.1,
      filled-step (loss_in _) l.list 0 l.i c.number8.result (omega (arith, l.invariant.0, l.invariant.1, most, c.loop-i-test.true)) l.invariant.2 c.number8.ensures,
    )

pub returns-clause-count_bound : goal.returns-clause-count_bound
returns-clause-count_bound c =
    let l = c.loop-i in
    let most = count-within (length c.args.bytes.now) in
    omega (arith, l.invariant.0, most)

pub returns-clause-list_value : goal.returns-clause-list_value
returns-clause-list_value c =
    let l = c.loop-i in
    let most = count-within (length c.args.bytes.now) in
    first-places _ l.list _ l.invariant.0 (omega (arith, l.invariant.0, l.invariant.1, most)) (λ j q. l.invariant.2 j (omega (arith, q, c.loop-i-test.false)))
