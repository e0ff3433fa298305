-- `table::evening::amount_sum` meets its contract. The invariant: the total is that of the accounts passed.
use mathlib.Core.Path.{refl, ap, ◌∙◌}
use native.Mathlib.Omega.{arith}
use Rattle.sums.specs.Sum.{sum}
use Rattle.sums.proofs.Sums.{sum_step, sum-most}
use Rattle.table.specs.Words.{word_at}
use Rattle.table.specs.Inner.{amount_sum}
use Rattle.table.proofs.evening.amount_sum.Goals as goal

pub loop-i-init : goal.loop-i-init
unfolding amount_sum sum
loop-i-init c = (refl, refl)

pub overflow_add-sum-in-loop-i : goal.overflow_add-sum-in-loop-i
unfolding amount_sum
overflow_add-sum-in-loop-i c =
    let start = c in
    let w = start.args.w.now in
    let k = start.args.k in
    let i = c.loop-i.i in
    let each = start.requires.2.each in
    omega (arith, sum-most i 40_000_000_000_000 (word_at w k) (λ j l. each j (omega arith)), each i (omega arith))

pub loop-i-preserved : goal.loop-i-preserved
unfolding amount_sum
loop-i-preserved c =
    let start = c in
    let i = c.loop-i.i in
    (refl, omega (arith, sum_step i (word_at start.args.w.now start.args.k)))

pub returns : goal.returns
returns c =
    let a = c.args in
    c.loop-i.invariant.1 ∙ ap (amount_sum a.w.now a.k) (omega arith)

pub overflow_mul-run : goal.overflow_mul-run
overflow_mul-run c = omega arith

pub overflow_add-sum : goal.overflow_add-sum
overflow_add-sum c = omega arith

pub offset_bounds-w-run : goal.offset_bounds-w-run
offset_bounds-w-run c = omega arith

pub bounds-w-run : goal.bounds-w-run
bounds-w-run c = omega arith
