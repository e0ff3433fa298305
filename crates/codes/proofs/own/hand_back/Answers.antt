-- `codes::own::hand_back` meets its contract.
use mathlib.Core.Bool.{not}
use mathlib.Core.Path.{◌≡◌, sym, ap, ◌∙◌}
use native.Mathlib.Omega.{arith}
use Rattle.rows.specs.Rows.{less_kinds, with_received}
use Rattle.rows.specs.Ranges.{kinds_within}
use Rattle.codes.specs.Own.{left_lines}
use Rattle.codes.proofs.Made.{first-line-holds, first-line-fails, no-line-gives-0, refused-answers, put-answers, received-anew}
use Rattle.codes.proofs.own.hand_back.Goals as goal

pub returns-then-not-kinds_within : goal.returns-then-not-kinds_within
returns-then-not-kinds_within c =
    let test-is : not (kinds_within c.args.k (less_kinds c.row_at-row.result.received c.row_at-row.result.allocated)) ≡ not c.kinds_within.result =
    ap not (sym (c.kinds_within.ensures ∙ ap (kinds_within c.args.k) c.less_kinds-left.ensures))
    in refused-answers 11 (λ q. left_lines q c.args.k) _ c.row_at-row.ensures (first-line-holds 11 _ _ (test-is ∙ c.if-not-kinds_within.true-raw)) (λ z. omega arith)

pub returns : goal.returns
returns c =
    let test-is : not (kinds_within c.args.k (less_kinds c.row_at-row.result.received c.row_at-row.result.allocated)) ≡ not c.kinds_within.result =
    ap not (sym (c.kinds_within.ensures ∙ ap (kinds_within c.args.k) c.less_kinds-left.ensures))
    in
    let args = c.args in
    let row-at = c.row_at-row in
    let pre = c.requires in
    put-answers (λ q. left_lines q args.k) _ row-at.ensures (first-line-fails 11 _ _ 0 (test-is ∙ c.if-not-kinds_within.false-raw) no-line-gives-0)
    (received-anew pre.0 pre.1 _ _
    (c.with_received-new.ensures ∙ ap (with_received row-at.result) c.less_kinds.ensures ∙ ap (λ q. with_received q (less_kinds q.received args.k)) row-at.ensures)
    c.put_kinds.ensures)
