-- `archiving::retired` meets its contract.
use mathlib.Core.Bool.{Bool, false, not}
use mathlib.Core.List.{List}
use mathlib.Core.Path.{◌≡◌, sym, ap, ◌∙◌}
use Prim.Native.Nat.{ℕ, ◌≤◌}
use native.Mathlib.Omega.{arith}
use lib.ListN.{get_or}
use Rattle.sums.specs.Sum.{sum}
use Rattle.sums.proofs.Sums.{sum_step, sum-most, sum-zero, only-most}
use Rattle.gaps.proofs.Passing.{one_if}
use Rattle.archiving.proofs.Entries.{retired-in}
use Rattle.archiving.proofs.retired.Invariants.{gone}
use Rattle.archiving.proofs.retired.Goals as goal

-- so many are at most as many as were passed
few : (live : List Bool) (i : ℕ) → sum i (gone live) ≤ i
few live i = omega (arith, sum-most i 1 (gone live) (λ j l. only-most (not (get_or live j false)) 1))

pub loop-i-init : goal.loop-i-init
loop-i-init c = sym (sum-zero 0 (gone c.args.t.now.marks.live) (λ i l. absurd (omega arith)))

pub overflow_add-many : goal.overflow_add-many
overflow_add-many c =
    let live = c.args.t.now.marks.live in
    let x = not (get_or live c.loop-i.i false) in
    omega (arith, few live c.loop-i.i, c.from-many.ensures, one_if x, only-most x 1)

pub loop-i-preserved : goal.loop-i-preserved
loop-i-preserved c =
    let live = c.args.t.now.marks.live in
    rw (c.loop-i.invariant, c.from-many.ensures, one_if (not (get_or live c.loop-i.i false))) (sym (sum_step c.loop-i.i (gone live)))

pub returns : goal.returns
returns c =
    let t = c.args.t.now in
    let e : c.loop-i.i ≡ t.count = omega (arith, c.loop-i-test.false) in
    c.loop-i.invariant ∙ ap (λ n. sum n (gone t.marks.live)) e
    ∙ retired-in t.count t.serial t.marks t.amounts t.modes t.needs t.next t.numbers c.requires
