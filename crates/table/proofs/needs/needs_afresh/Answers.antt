-- `table::needs::needs_afresh` meets its contract. The invariant: the places passed have the need to keep, the others what is deemed under their account.
use mathlib.Core.Path.{◌≡◌, refl, sym, ap, ◌∙◌}
use native.Mathlib.Omega.{arith}
use lib.ListN.{length-set}
use lib.Seq.{get_or-set_other}
use Rattle.sums.proofs.Lists.{filled-step, list-is}
use Rattle.rows.specs.View.{View}
use Rattle.rows.specs.Rows.{ceiling, view_by}
use Rattle.rows.specs.KeptNeeds.{kept_need, needs_afresh}
use Rattle.rows.specs.Inner.{kept_with}
use Rattle.rows.proofs.Bounds.{under-cap, ranged-bounded}
use Rattle.rows.proofs.KeptNeeds.{kept-with}
use Rattle.table.specs.Facts.{seen_book}
use Rattle.table.proofs.needs.needs_afresh.Goals as goal

pub deemed_under_by-requires : goal.deemed_under_by-requires
deemed_under_by-requires c = (c.requires.0, c.requires.1, c.requires.3)

pub loop-i-init : goal.loop-i-init
loop-i-init c =
    let h = c.deemed_under_by.ensures in
    (h, h.size, λ j l. absurd (omega arith), λ j l. refl)

pub kept_at-requires : goal.kept_at-requires
kept_at-requires c =
    let seen : View =
    view_by c.args.rule (seen_book c.args.count c.args.marks.now c.args.w.now)
    in
    let start = c in
    let a = start.args in
    let l = c.loop-i in (
      start.requires.0,
      omega (
        arith,
        l.invariant.3 l.i (omega arith),
        under-cap seen ceiling (ranged-bounded a.rule (seen_book a.count a.marks.now a.w.now) start.requires.0) start.requires.1
            _ l.invariant.0 l.i,
      ),
    )

pub loop-i-preserved : goal.loop-i-preserved
loop-i-preserved c =
    let seen : View =
    view_by c.args.rule (seen_book c.args.count c.args.marks.now c.args.w.now)
    in
    let l = c.loop-i in
    let start = c in
    let i = l.i in
    let v = seen in
    let x = c.kept_at.result in
    let is : x ≡ kept_need v i =
    c.kept_at.ensures ∙ ap (kept_with v i) (l.invariant.3 i (omega arith)) ∙ kept-with v start.requires.1 _ l.invariant.0 start.requires.2 i in (
      l.invariant.0,
      length-set l.needs i x ∙ l.invariant.1,
      filled-step (kept_need v) l.needs 0 i x (omega arith) l.invariant.2 is,
      λ j m. get_or-set_other l.needs i j x 0 (λ e. omega arith) ∙ l.invariant.3 j (omega arith),
    )

pub returns : goal.returns
unfolding needs_afresh
returns c =
    let seen : View =
    view_by c.args.rule (seen_book c.args.count c.args.marks.now c.args.w.now)
    in
    let l = c.loop-i in
    sym (list-is (kept_need seen) 256 0 l.needs l.invariant.1 (λ j m. l.invariant.2 j (omega arith)))

pub offset_bounds-needs-i : goal.offset_bounds-needs-i
offset_bounds-needs-i c = omega arith

pub bounds-needs-i : goal.bounds-needs-i
bounds-needs-i c = omega arith

pub offset_bounds-needs-i-in-loop-i : goal.offset_bounds-needs-i-in-loop-i
offset_bounds-needs-i-in-loop-i c = omega arith

pub bounds-needs-i-in-loop-i : goal.bounds-needs-i-in-loop-i
bounds-needs-i-in-loop-i c = omega arith
