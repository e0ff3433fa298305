use Rattle.std.proofs.Common.{suc, length-take, length-drop, ap, sym, ◌∙◌, arith}
use Rattle.margins.specs.Positions.{said_in}
use Rattle.margins.proofs.Holding.{held_on, from-none, at-end, a_turn, one_at_most, none_yet}
use Rattle.margins.proofs.positions.read.Goals as goal

pub loop-at-init : goal.loop-at-init
loop-at-init c = (omega arith, omega arith, none_yet _ c.none-held.ensures, ap (λ h. held_on h 1 (said_in c.args.text.now)) c.none-held.ensures ∙ from-none c.args.text.now)

pub loop-at-preserved : goal.loop-at-preserved
loop-at-preserved c =
    let n = c.up_to-n in
    let l = c.loop-at in
    let t = c.args.text.now in
    let h = c.with_line-held in
    let most = simp (length-take, length-drop) at n.ensures.upper_bound in (
      omega (arith, most, c.loop-at-test.true),
      omega (arith, l.invariant.1),
      omega (arith, l.invariant.2, one_at_most t l.at n.result l.lines l.held h.result h.ensures),
      sym (a_turn t l.at n.result l.lines l.held h.result n.ensures.value h.ensures) ∙ l.invariant.3,
    )

pub returns : goal.returns
returns c = sym (at-end c.loop-at.held (suc c.loop-at.lines) c.args.text.now c.loop-at.at c.loop-at-test.false) ∙ c.loop-at.invariant.3
