-- `codes::own::allocate` meets its contract.
use mathlib.Core.Bool.{not}
use mathlib.Core.Path.{◌≡◌, sym, ap, ◌∙◌}
use native.Mathlib.Omega.{arith}
use Rattle.rows.specs.Rows.{plus_kinds, less_kinds, with_allocated}
use Rattle.rows.specs.Ranges.{kinds_within}
use Rattle.codes.specs.Own.{left_lines}
use Rattle.codes.proofs.Made.{first-line-holds, first-line-fails, no-line-gives-0, refused-answers, put-answers, allocated-anew}
use Rattle.codes.proofs.own.allocate.Goals as goal

pub returns-then-not-kinds_within : goal.returns-then-not-kinds_within
returns-then-not-kinds_within c =
    let test-is : not (kinds_within c.args.k (less_kinds c.row_at-row.result.received c.row_at-row.result.allocated)) ≡ not c.kinds_within.result =
    ap not (sym (c.kinds_within.ensures ∙ ap (kinds_within c.args.k) c.less_kinds-left.ensures))
    in refused-answers 11 (λ q. left_lines q c.args.k) _ c.row_at-row.ensures (first-line-holds 11 _ _ (test-is ∙ c.if-not-kinds_within.true-raw)) (λ z. omega arith)

pub plus_kinds-requires : goal.plus_kinds-requires
plus_kinds-requires c =
    let pre = c.requires in
    (rw c.row_at-row.ensures (omega (arith, pre.2)), pre.3)

pub returns : goal.returns
returns c =
    let test-is : not (kinds_within c.args.k (less_kinds c.row_at-row.result.received c.row_at-row.result.allocated)) ≡ not c.kinds_within.result =
    ap not (sym (c.kinds_within.ensures ∙ ap (kinds_within c.args.k) c.less_kinds-left.ensures))
    in
    let made = c in
    let tests = made in
    let row-at = tests.row_at-row in
    let s = tests in
    put-answers (λ q. left_lines q s.args.k) _ row-at.ensures (first-line-fails 11 _ _ 0 (test-is ∙ tests.if-not-kinds_within.false-raw) no-line-gives-0)
    (allocated-anew s.requires.0 s.requires.1 _ _
    (made.with_allocated-new.ensures ∙ ap (with_allocated row-at.result) made.plus_kinds.ensures ∙ ap (λ q. with_allocated q (plus_kinds q.allocated s.args.k)) row-at.ensures)
    c.put_kinds.ensures)
