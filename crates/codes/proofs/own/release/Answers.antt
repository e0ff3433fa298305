-- `codes::own::release` meets its contract: 11, then 17, then 12 by what is left, or the words put.
use mathlib.Core.Bool.{not}
use mathlib.Core.List.{List}
use mathlib.Core.Path.{◌≡◌, sym, ap, ◌∙◌}
use native.Mathlib.Omega.{arith}
use lib.ListN.{get_or}
use Rattle.sums.specs.Table.{Line, first}
use Rattle.rows.specs.declared.Row.{Row}
use Rattle.rows.specs.Rows.{less_kinds, with_allocated}
use Rattle.rows.specs.Ranges.{kinds_within}
use Rattle.codes.specs.Own.{deemed_under_in, leaves_below, taking_lines, release_lines}
use Rattle.codes.proofs.Made.{first-line-holds, first-line-fails, refused-answers, put-answers, held-in-range, released-in, allocated-anew}
use Rattle.codes.proofs.own.release.Goals as goal

pub returns-then-not-kinds_within : goal.returns-then-not-kinds_within
returns-then-not-kinds_within c =
    let after : Row → Row =
    λ q. with_allocated q (less_kinds q.allocated c.args.k)
    in
    let own : Row → List Line =
    λ q. release_lines q c.args.on (leaves_below q (after q) (get_or (deemed_under_in c.args.w.now c.args.needs.now) c.args.i 0)) c.args.k
    in
    let test-is : not (kinds_within c.args.k c.row_at-row.result.allocated) ≡ not c.kinds_within.result =
    ap not (sym c.kinds_within.ensures)
    in refused-answers 11 own _ c.row_at-row.ensures (first-line-holds 11 _ _ (test-is ∙ c.if-not-kinds_within.true-raw)) (λ z. omega arith)

pub taking-n-requires : goal.taking-n-requires
taking-n-requires c =
    let after : Row → Row =
    λ q. with_allocated q (less_kinds q.allocated c.args.k)
    in
    let made : (let t = c in c.with_allocated-new.result ≡ after t.row_at-row.result) =
    c.with_allocated-new.ensures ∙ ap (with_allocated c.row_at-row.result) c.less_kinds.ensures
    in
    let t = c in
    let s = t in
    let h = held-in-range _ s.requires.0 t.row_at-row.ensures in
    (s.requires.0.inside, h, rw made (released-in _ s.args.k h), s.requires.0.most s.args.i)

pub returns-then-n-ne0 : goal.returns-then-n-ne0
returns-then-n-ne0 c =
    let after : Row → Row =
    λ q. with_allocated q (less_kinds q.allocated c.args.k)
    in
    let own : Row → List Line =
    λ q. release_lines q c.args.on (leaves_below q (after q) (get_or (deemed_under_in c.args.w.now c.args.needs.now) c.args.i 0)) c.args.k
    in
    let test-is : not (kinds_within c.args.k c.row_at-row.result.allocated) ≡ not c.kinds_within.result =
    ap not (sym c.kinds_within.ensures)
    in
    let made : (let t = c in c.with_allocated-new.result ≡ after t.row_at-row.result) =
    c.with_allocated-new.ensures ∙ ap (with_allocated c.row_at-row.result) c.less_kinds.ensures
    in
    let number : (let t = c in c.taking-n.result ≡ first (own t.row_at-row.result)) =
    let t = c in
    let s = t in
    let under = get_or (deemed_under_in s.args.w.now s.args.needs.now) s.args.i 0 in
    first-line-fails 11 _ _ _ (test-is ∙ c.if-not-kinds_within.false-raw)
    (c.taking-n.ensures ∙ ap (λ q. first (taking_lines s.args.on (leaves_below t.row_at-row.result q under))) made)
    in let t = c in refused-answers _ own _ t.row_at-row.ensures number c.if-n-ne0.true

pub put_kinds-requires : goal.put_kinds-requires
put_kinds-requires c = (omega arith, c.requires.0.inside)

pub returns : goal.returns
returns c =
    let after : Row → Row =
    λ q. with_allocated q (less_kinds q.allocated c.args.k)
    in
    let own : Row → List Line =
    λ q. release_lines q c.args.on (leaves_below q (after q) (get_or (deemed_under_in c.args.w.now c.args.needs.now) c.args.i 0)) c.args.k
    in
    let made : (let t = c in c.with_allocated-new.result ≡ after t.row_at-row.result) =
    c.with_allocated-new.ensures ∙ ap (with_allocated c.row_at-row.result) c.less_kinds.ensures
    in
    let test-is : not (kinds_within c.args.k c.row_at-row.result.allocated) ≡ not c.kinds_within.result =
    ap not (sym c.kinds_within.ensures)
    in
    let number : (let t = c in c.taking-n.result ≡ first (own t.row_at-row.result)) =
    let t = c in
    let s = t in
    let under = get_or (deemed_under_in s.args.w.now s.args.needs.now) s.args.i 0 in
    first-line-fails 11 _ _ _ (test-is ∙ c.if-not-kinds_within.false-raw)
    (c.taking-n.ensures ∙ ap (λ q. first (taking_lines s.args.on (leaves_below t.row_at-row.result q under))) made)
    in
    let passed = c in
    let new = passed in
    let t = new in
    let s = t in
    let row-at = t.row_at-row in
    put-answers own _ row-at.ensures
    (sym passed.if-n-ne0.false ∙ number)
    (allocated-anew s.requires.0.size s.requires.0.inside _ _ (made ∙ ap after row-at.ensures) c.put_kinds.ensures)
