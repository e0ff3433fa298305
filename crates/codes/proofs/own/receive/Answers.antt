-- `codes::own::receive` meets its contract.
use mathlib.Core.Bool.{not}
use mathlib.Core.Path.{◌≡◌, sym, ap, ◌∙◌}
use native.Mathlib.Omega.{arith}
use Rattle.rows.specs.Rows.{plus_kinds, with_received}
use Rattle.rows.specs.Ranges.{kinds_capped}
use Rattle.codes.specs.Own.{receive_lines}
use Rattle.codes.proofs.Made.{first-line-holds, first-line-fails, no-line-gives-0, refused-answers, put-answers, received-anew}
use Rattle.codes.proofs.own.receive.Goals as goal

pub plus_kinds-sum-requires : goal.plus_kinds-sum-requires
plus_kinds-sum-requires c = (rw c.row_at-row.ensures c.requires.2.received, c.requires.3)

pub returns-then-not-kinds_capped : goal.returns-then-not-kinds_capped
returns-then-not-kinds_capped c =
    let test-is : not (kinds_capped (plus_kinds c.row_at-row.result.received c.args.k)) ≡ not c.kinds_capped.result =
    ap not (sym (c.kinds_capped.ensures ∙ ap kinds_capped c.plus_kinds-sum.ensures))
    in refused-answers 10 (λ q. receive_lines q c.args.k) _ c.row_at-row.ensures (first-line-holds 10 _ _ (test-is ∙ c.if-not-kinds_capped.true-raw)) (λ z. omega arith)

pub returns : goal.returns
returns c =
    let test-is : not (kinds_capped (plus_kinds c.row_at-row.result.received c.args.k)) ≡ not c.kinds_capped.result =
    ap not (sym (c.kinds_capped.ensures ∙ ap kinds_capped c.plus_kinds-sum.ensures))
    in
    let args = c.args in
    let row-at = c.row_at-row in
    let pre = c.requires in
    put-answers (λ q. receive_lines q args.k) _ row-at.ensures (first-line-fails 10 _ _ 0 (test-is ∙ c.if-not-kinds_capped.false-raw) no-line-gives-0)
    (received-anew pre.0 pre.1 _ _
    (c.with_received-new.ensures ∙ ap (with_received row-at.result) c.plus_kinds-sum.ensures ∙ ap (λ q. with_received q (plus_kinds q.received args.k)) row-at.ensures)
    c.put_kinds.ensures)
