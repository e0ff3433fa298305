-- `codes::one_kind::release_kind` meets its contract: 11, then 17, then 12 by what is left, or the word put.
use mathlib.Core.Bool.{not}
use mathlib.Core.List.{List}
use mathlib.Core.Path.{◌≡◌, sym, ap, ◌∙◌}
use Prim.Native.Nat.{◌-◌}
use native.Mathlib.Omega.{arith}
use lib.Dec.{leb}
use lib.ListN.{get_or}
use borrow.Author.Tests.{le-leb, lt-leb}
use Rattle.sums.specs.Table.{Line, first}
use Rattle.rows.specs.declared.Kinds.{Kinds}
use Rattle.rows.specs.declared.Row.{Row}
use Rattle.rows.specs.Rows.{less_kinds, with_allocated}
use Rattle.rows.specs.Ranges.{kinds_within}
use Rattle.codes.specs.Own.{deemed_under_in, leaves_below, taking_lines, release_lines}
use Rattle.codes.specs.OneKind.{kind_in, with_kind, only_kind}
use Rattle.codes.proofs.Made.{first-line-holds, first-line-fails, refused-answers, put-answers, held-in-range, released-in}
use Rattle.codes.proofs.OneKind.{less-only, within-only, released-anew}
use Rattle.codes.proofs.one_kind.release_kind.Goals as goal

pub returns-then-had-x : goal.returns-then-had-x
returns-then-had-x c =
    let taken : Kinds =
    only_kind c.args.kind c.args.x
    in
    let after : Row → Row =
    λ q. with_allocated q (less_kinds q.allocated taken)
    in
    let own : Row → List Line =
    λ q. release_lines q c.args.on (leaves_below q (after q) (get_or (deemed_under_in c.args.w.now c.args.needs.now) c.args.i 0)) taken
    in
    let test-is : kinds_within taken c.row_at-row.result.allocated ≡ leb c.args.x c.kind_in-had.result =
    within-only _ c.args.kind c.args.x ∙ ap (leb c.args.x) (sym c.kind_in-had.ensures)
    in
    let h = c in
    refused-answers 11 own _ h.row_at-row.ensures (first-line-holds 11 _ _ (ap not (test-is ∙ lt-leb _ _ c.if-had-x.true))) (λ z. omega arith)

pub taking-n-requires : goal.taking-n-requires
taking-n-requires c =
    let taken : Kinds =
    only_kind c.args.kind c.args.x
    in
    let after : Row → Row =
    λ q. with_allocated q (less_kinds q.allocated taken)
    in
    let made : c.with_allocated-new.result ≡ after c.row_at-row.result =
    let s = c in
    let q = c.row_at-row.result in
    c.with_allocated-new.ensures
    ∙ ap (with_allocated q) (c.with_kind.ensures ∙ ap (with_kind q.allocated s.args.kind) (c.less.ensures ∙ ap (λ v. v - s.args.x) c.kind_in-had.ensures) ∙ sym (less-only q.allocated s.args.kind s.args.x))
    in
    let n = c in
    let s = n in
    let h = held-in-range _ s.requires n.row_at-row.ensures in
    (s.requires.inside, h, rw made (released-in _ taken h), s.requires.most s.args.i)

pub returns-then-n-ne0 : goal.returns-then-n-ne0
returns-then-n-ne0 c =
    let taken : Kinds =
    only_kind c.args.kind c.args.x
    in
    let after : Row → Row =
    λ q. with_allocated q (less_kinds q.allocated taken)
    in
    let own : Row → List Line =
    λ q. release_lines q c.args.on (leaves_below q (after q) (get_or (deemed_under_in c.args.w.now c.args.needs.now) c.args.i 0)) taken
    in
    let test-is : kinds_within taken c.row_at-row.result.allocated ≡ leb c.args.x c.kind_in-had.result =
    within-only _ c.args.kind c.args.x ∙ ap (leb c.args.x) (sym c.kind_in-had.ensures)
    in
    let made : c.with_allocated-new.result ≡ after c.row_at-row.result =
    let s = c in
    let q = c.row_at-row.result in
    c.with_allocated-new.ensures
    ∙ ap (with_allocated q) (c.with_kind.ensures ∙ ap (with_kind q.allocated s.args.kind) (c.less.ensures ∙ ap (λ v. v - s.args.x) c.kind_in-had.ensures) ∙ sym (less-only q.allocated s.args.kind s.args.x))
    in
    let number : (let h = c in c.taking-n.result ≡ first (own h.row_at-row.result)) =
    let n = c in
    let h = n in
    let s = h in
    let under = get_or (deemed_under_in s.args.w.now s.args.needs.now) s.args.i 0 in
    first-line-fails 11 _ _ _ (ap not (test-is ∙ le-leb _ _ n.if-had-x.false))
    (c.taking-n.ensures ∙ ap (λ q. first (taking_lines s.args.on (leaves_below h.row_at-row.result q under))) made)
    in let h = c in refused-answers _ own _ h.row_at-row.ensures number c.if-n-ne0.true

pub returns : goal.returns
returns c =
    let taken : Kinds =
    only_kind c.args.kind c.args.x
    in
    let after : Row → Row =
    λ q. with_allocated q (less_kinds q.allocated taken)
    in
    let own : Row → List Line =
    λ q. release_lines q c.args.on (leaves_below q (after q) (get_or (deemed_under_in c.args.w.now c.args.needs.now) c.args.i 0)) taken
    in
    let test-is : kinds_within taken c.row_at-row.result.allocated ≡ leb c.args.x c.kind_in-had.result =
    within-only _ c.args.kind c.args.x ∙ ap (leb c.args.x) (sym c.kind_in-had.ensures)
    in
    let made : c.with_allocated-new.result ≡ after c.row_at-row.result =
    let s = c in
    let q = c.row_at-row.result in
    c.with_allocated-new.ensures
    ∙ ap (with_allocated q) (c.with_kind.ensures ∙ ap (with_kind q.allocated s.args.kind) (c.less.ensures ∙ ap (λ v. v - s.args.x) c.kind_in-had.ensures) ∙ sym (less-only q.allocated s.args.kind s.args.x))
    in
    let number : (let h = c in c.taking-n.result ≡ first (own h.row_at-row.result)) =
    let n = c in
    let h = n in
    let s = h in
    let under = get_or (deemed_under_in s.args.w.now s.args.needs.now) s.args.i 0 in
    first-line-fails 11 _ _ _ (ap not (test-is ∙ le-leb _ _ n.if-had-x.false))
    (c.taking-n.ensures ∙ ap (λ q. first (taking_lines s.args.on (leaves_below h.row_at-row.result q under))) made)
    in
    let e = c in
    let h = e in
    let s = h in
    put-answers own _ h.row_at-row.ensures (sym e.if-n-ne0.false ∙ number)
    (released-anew _ _ _ s.requires.size s.requires.inside s.args.kind s.args.x _
    (c.less-2.ensures ∙ ap (λ v. v - s.args.x) (h.kind_in-had.ensures ∙ ap (λ (q : Row). kind_in q.allocated s.args.kind) h.row_at-row.ensures)) _ c.put_allocated.ensures)
