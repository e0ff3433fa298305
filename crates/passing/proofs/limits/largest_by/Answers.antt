-- `passing::limits::largest_by` meets its contract.
use mathlib.Core.Path.{◌∙◌}
use native.Mathlib.Omega.{arith}
use Rattle.passing.proofs.ByLimits.{refused-by, number-first, held_first, spare-first, given_by}
use Rattle.passing.proofs.limits.largest_by.Goals as goal

pub returns-then-l-least : goal.returns-then-l-least
returns-then-l-least c =
    let l = c.args.l in
    c.refused.ensures ∙ refused-by l c.args.least l.number (number-first l c.args.least c.if-l-least.true) (λ e. omega (arith, c.requires))

pub returns-then-l : goal.returns-then-l
returns-then-l c =
    let a = c.args in
    c.refused-then-l.ensures ∙ refused-by a.l a.least 17 (held_first a.l a.least c.if-l-least.false c.if-l.true) (λ e. omega arith)

pub returns-then-l-least-2 : goal.returns-then-l-least-2
returns-then-l-least-2 c =
    let a = c.args in
    c.refused-then-l-least-2.ensures ∙ refused-by a.l a.least 12 (spare-first a.l a.least c.if-l-least.false c.if-l.false c.if-l-least-2.true) (λ e. omega arith)

pub returns : goal.returns
returns c =
    let s = c in
    let a = s.args in
    rw (c.blocked_of.ensures, c.blocked_of-most.ensures) (given_by a.l a.least c.if-l-least.false c.if-l.false c.if-l-least-2.false)
