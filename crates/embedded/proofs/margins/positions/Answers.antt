-- `embedded::margins::positions` meets its contract.
use Rattle.std.proofs.Common.{sym, ◌∙◌, arith}
use lib.ListN.{length-set}
use Rattle.sums.proofs.Lists.{list-is, filled-step}
use Rattle.embedded.specs.Margins.{position_at}
use Rattle.embedded.proofs.margins.positions.Invariants.{empty}
use Rattle.embedded.proofs.margins.positions.Goals as goal

pub loop-i-preserved : goal.loop-i-preserved
loop-i-preserved c =
    let a = c.args in
    let l = c.loop-i in (
      length-set l.place-items l.i c.position_at.result ∙ l.invariant.0,
      filled-step (position_at a.products.now a.sides.now a.notionals.now) l.place-items empty l.i c.position_at.result (omega (arith, l.invariant.0)) l.invariant.1 c.position_at.ensures,
    )

pub returns : goal.returns
returns c =
    let a = c.args in
    let l = c.loop-i in
    sym (list-is (position_at a.products.now a.sides.now a.notionals.now) 64 empty l.place-items l.invariant.0 (λ j m. l.invariant.1 j (omega arith)))
