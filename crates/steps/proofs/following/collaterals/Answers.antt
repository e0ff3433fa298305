-- `steps::following::collaterals` meets its contract. The invariant: the accounts passed have theirs.
use Rattle.std.proofs.Common.{refl, ◌∙◌, arith, length-set}
use Rattle.sums.proofs.Lists.{filled-step}
use Rattle.steps.specs.Dues.{collateral_in}
use Rattle.steps.proofs.following.collaterals.Goals as goal

pub loop-i-init : goal.loop-i-init
loop-i-init c = (refl, λ j l. absurd (omega arith))

pub collateral_at-requires : goal.collateral_at-requires
collateral_at-requires c = c.requires c.loop-i.i (omega arith)

pub loop-i-preserved : goal.loop-i-preserved
loop-i-preserved c =
    let l = c.loop-i in
    let v = l.invariant in
    (length-set l.kept l.i _ ∙ v.0, filled-step (collateral_in c.args.w.now) l.kept 0 l.i c.collateral_at.result (omega arith) v.1 c.collateral_at.ensures)

pub returns : goal.returns
returns c = let v = c.loop-i.invariant in record { size = v.0; each = λ j l. v.1 j (omega arith) }

pub offset_bounds-kept-i : goal.offset_bounds-kept-i
offset_bounds-kept-i c = omega arith

pub bounds-kept-i : goal.bounds-kept-i
bounds-kept-i c = omega arith
