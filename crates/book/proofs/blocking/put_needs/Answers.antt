-- `book::blocking::put_needs` meets its contract. The invariant: the places passed have their accounts' needs.
use mathlib.Core.Path.{◌≡◌, sym, ap, ◌∙◌}
use Prim.Native.Nat.{◌<◌}
use native.Mathlib.Omega.{arith}
use lib.ListN.{get_or, length-set}
use Rattle.sums.proofs.Lists.{list-is, filled-step}
use Rattle.rows.specs.View.{View, need}
use Rattle.rows.specs.Rows.{view}
use Rattle.rows.specs.DeemedUnder.{account_at, need_by}
use Rattle.rows.proofs.KeptNeeds.{need-by}
use Rattle.table.specs.Facts.{seen_book}
use Rattle.book.proofs.blocking.put_needs.Goals as goal

pub loop-i-init : goal.loop-i-init
loop-i-init c = (c.requires.needs_kept.1, λ j l. absurd (omega arith))

pub account_at-a-requires : goal.account_at-a-requires
account_at-a-requires c =
    let inside : c.loop-i.i < 256 =
    omega (arith, c.requires.ranged.0.most)
    in (inside, c.requires.ranged.0.ranges c.loop-i.i (omega arith))

pub offset_bounds-needs-i : goal.offset_bounds-needs-i
offset_bounds-needs-i c =
    let inside : c.loop-i.i < 256 =
    omega (arith, c.requires.ranged.0.most)
    in omega (arith, inside)

pub bounds-needs-i : goal.bounds-needs-i
bounds-needs-i c =
    let inside : c.loop-i.i < 256 =
    omega (arith, c.requires.ranged.0.most)
    in inside

pub offset_bounds-room-i : goal.offset_bounds-room-i
offset_bounds-room-i c =
    let inside : c.loop-i.i < 256 =
    omega (arith, c.requires.ranged.0.most)
    in omega (arith, inside)

pub bounds-room-i : goal.bounds-room-i
bounds-room-i c = let l = c.loop-i in omega (arith, l.invariant.0)

pub loop-i-preserved : goal.loop-i-preserved
loop-i-preserved c =
    let seen : View =
    view (seen_book c.args.count c.args.marks.now c.args.w.now)
    in
    let inside : c.loop-i.i < 256 =
    omega (arith, c.requires.ranged.0.most)
    in
    let account = c in
    let l = account.loop-i in
    let start = account in
    let pre = start.requires in
    let v = seen in
    let a = start.args in
    let low = inside in
    let put : c.need_by.result ≡ need v l.i =
    c.need_by.ensures ∙ ap (λ x. need_by x (get_or a.needs.now l.i 0)) account.account_at-a.ensures
    ∙ ap (need_by (account_at v l.i)) (pre.needs_kept.0 l.i low) ∙ sym (need-by v pre.ranged.1 l.i (omega arith)) in (
      length-set l.room l.i c.need_by.result ∙ l.invariant.0,
      filled-step (need v) l.room 0 l.i c.need_by.result (omega (arith, l.invariant.0)) l.invariant.1 put,
    )

pub shape_of-room : goal.shape_of-room
shape_of-room c = c.loop-i.invariant.0 ∙ sym c.requires.needs_kept.1

pub returns : goal.returns
returns c =
    let seen : View =
    view (seen_book c.args.count c.args.marks.now c.args.w.now)
    in
    let l = c.loop-i in
    let start = c in
    sym (list-is (need seen) start.args.count 0 l.room l.invariant.0 (λ j q. l.invariant.1 j (omega arith)))
