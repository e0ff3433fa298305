-- `codes::own::pledge` meets its contract.
use mathlib.Core.Path.{refl, ap, ◌∙◌}
use Prim.Native.Nat.{◌+◌}
use native.Mathlib.Omega.{arith}
use borrow.Author.Tests.{lt-ltb, le-ltb}
use Rattle.rows.specs.Rows.{with_pledged}
use Rattle.codes.specs.Own.{pledge_lines}
use Rattle.codes.proofs.Made.{first-line-holds, first-line-fails, no-line-gives-0, refused-answers, put-answers, pledged-anew}
use Rattle.codes.proofs.own.pledge.Goals as goal

pub overflow_add-sum : goal.overflow_add-sum
overflow_add-sum c =
    let pre = c.requires in
    rw c.row_at-row.ensures (omega (arith, pre.2.pledged, pre.3))

pub returns-then-sum-gt-CEILING : goal.returns-then-sum-gt-CEILING
returns-then-sum-gt-CEILING c = refused-answers 10 (λ q. pledge_lines q c.args.y) _ c.row_at-row.ensures (first-line-holds 10 _ _ (lt-ltb _ _ c.if-sum-gt-CEILING.true)) (λ z. omega arith)

pub overflow_add-w : goal.overflow_add-w
overflow_add-w c = omega (arith, c.requires.1)

pub offset_bounds-w-i : goal.offset_bounds-w-i
offset_bounds-w-i c = omega (arith, c.requires.1)

pub bounds-w-i : goal.bounds-w-i
bounds-w-i c = omega (arith, c.requires.1)

pub returns : goal.returns
returns c =
    let s = c in
    let row-at = c.row_at-row in
    put-answers (λ q. pledge_lines q s.args.y) _ row-at.ensures (first-line-fails 10 _ _ 0 (le-ltb _ _ c.if-sum-gt-CEILING.false) no-line-gives-0)
    (pledged-anew s.requires.0 s.requires.1 _ _
    (c.with_pledged-new.ensures ∙ ap (λ q. with_pledged q (q.pledged + s.args.y)) row-at.ensures) refl)
