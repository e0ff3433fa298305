-- `codes::own::set_margin` meets its contract: 13 is asked for a rising margin alone (K6).
use mathlib.Core.Bool.{Bool, false, ◌&&◌, and-false}
use mathlib.Core.List.{List}
use mathlib.Core.Path.{◌≡◌, refl, sym, ap, ◌∙◌}
use native.Mathlib.Omega.{arith}
use lib.Dec.{ltb}
use borrow.Author.Tests.{lt-ltb, le-ltb}
use Rattle.sums.specs.Table.{Line}
use Rattle.sums.proofs.Choices.{and-join}
use Rattle.rows.specs.declared.Row.{Row}
use Rattle.rows.specs.Rows.{with_margin}
use Rattle.codes.specs.Own.{deemed_under_in, need_passes_in, margin_lines}
use Rattle.codes.proofs.Made.{first-line-holds, first-line-fails, no-line-gives-0, refused-answers, put-answers, margin-anew}
use Rattle.codes.proofs.own.set_margin.Goals as goal
use Rattle.codes.proofs.own.set_margin.Goals.{then-row-y+else-need_passes_after, else-row-y}

pub need_passes_after-requires : goal.need_passes_after-requires
need_passes_after-requires c = let r = c in (r.requires.0, r.requires.1, r.row_at-row.ensures)

pub returns-then-need_passes_after : goal.returns-then-need_passes_after
returns-then-need_passes_after c =
    let passed : Bool =
    need_passes_in c.args.marks.now c.args.w.now (deemed_under_in c.args.w.now c.args.needs.now) c.args.i c.args.y
    in
    let own : Row → List Line =
    λ q. margin_lines q c.args.y passed
    in
    let a = c in
    let r = a in
    refused-answers 13 own _ r.row_at-row.ensures (first-line-holds 13 _ _ (and-join (lt-ltb _ _ a.if-row-y.true) (sym c.need_passes_after.ensures ∙ c.if-need_passes_after.true))) (λ z. omega arith)

pub overflow_add-w : goal.overflow_add-w
overflow_add-w c = omega (arith, c.requires.0.inside)

pub offset_bounds-w-i : goal.offset_bounds-w-i
offset_bounds-w-i c = omega (arith, c.requires.0.inside)

pub bounds-w-i : goal.bounds-w-i
bounds-w-i c = omega (arith, c.requires.0.inside)

pub returns : goal.returns
returns c =
    let passed : Bool =
    need_passes_in c.args.marks.now c.args.w.now (deemed_under_in c.args.w.now c.args.needs.now) c.args.i c.args.y
    in
    let own : Row → List Line =
    λ q. margin_lines q c.args.y passed
    in
    let passes : (let r = c in (ltb r.row_at-row.result.margin r.args.y && passed) ≡ false) =
    let r = c in
    let rises = ltb r.row_at-row.result.margin r.args.y in
    elim c.if-row-y.branch [
      | then-row-y+else-need_passes_after w ↦ ap (λ t. rises && t) (sym w.need_passes_after.ensures ∙ w.if-need_passes_after.false) ∙ and-false rises
      | else-row-y w ↦ ap (λ t. t && passed) (le-ltb _ _ w.if-row-y.false)
    ]
    in
    let r = c in
    let s = r in
    put-answers own _ r.row_at-row.ensures (first-line-fails 13 _ _ 0 passes no-line-gives-0)
    (margin-anew s.requires.0.size s.requires.0.inside _ _ (c.with_margin-new.ensures ∙ ap (λ q. with_margin q s.args.y) r.row_at-row.ensures) refl)
