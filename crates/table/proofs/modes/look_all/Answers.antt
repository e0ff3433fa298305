-- `table::modes::look_all` meets its contract. The invariant: the accounts passed are looked at, and no other place is on (`Passed`).
use mathlib.Core.Bool.{true}
use mathlib.Core.Path.{◌≡◌, ◌∙◌}
use Prim.Native.Nat.{◌<◌}
use native.Mathlib.Omega.{arith}
use Rattle.rows.specs.declared.Rule.TheVariants.{New}
use Rattle.rows.specs.View.{View}
use Rattle.rows.specs.Rows.{view}
use Rattle.rows.specs.Inner.{in_tenths}
use Rattle.rows.proofs.Counted.{collateral-most}
use Rattle.rows.proofs.Bounds.{under-cap, bounded-in}
use Rattle.rows.proofs.Tenths.{shaped_in}
use Rattle.rows.proofs.Looks.{look-by, pass-start, pass_step, pass-end}
use Rattle.table.specs.Facts.{seen_book}
use Rattle.table.proofs.modes.look_all.Goals as goal

pub loop-i-init : goal.loop-i-init
loop-i-init c =
    let seen : View =
    view (seen_book c.args.count c.args.marks.now c.args.w.now)
    in pass-start seen c.args.modes.now

pub account_at-a-requires : goal.account_at-a-requires
account_at-a-requires c =
    let inside : c.loop-i.i < 256 =
    omega (arith, c.requires.ranged.0.most)
    in (inside, c.requires.ranged.0.ranges c.loop-i.i (omega arith))

pub offset_bounds-excess-i : goal.offset_bounds-excess-i
offset_bounds-excess-i c =
    let inside : c.loop-i.i < 256 =
    omega (arith, c.requires.ranged.0.most)
    in omega (arith, inside)

pub bounds-excess-i : goal.bounds-excess-i
bounds-excess-i c =
    let inside : c.loop-i.i < 256 =
    omega (arith, c.requires.ranged.0.most)
    in inside

pub bounds-modes-i : goal.bounds-modes-i
bounds-modes-i c =
    let inside : c.loop-i.i < 256 =
    omega (arith, c.requires.ranged.0.most)
    in inside

pub look-requires : goal.look-requires
look-requires c =
    let seen : View =
    view (seen_book c.args.count c.args.marks.now c.args.w.now)
    in
    let at = c in
    let start = at in
    let pre = start.requires in
    let a = start.args in
    let i = at.loop-i.i in
    let h = pre.ranged.0.ranges i (omega arith) in
    rw at.account_at-a.ensures (
      omega arith,
      omega (arith, collateral-most New _ h),
      omega (
        arith,
        under-cap (in_tenths seen) 100_000_000_000_000 (bounded-in true New (seen_book a.count a.marks.now a.w.now) pre.ranged.0)
            (shaped_in true pre.ranged.1) a.excess.now pre.none_beyond.1 i,
      ),
    )

pub bounds-after-i : goal.bounds-after-i
bounds-after-i c =
    let inside : c.loop-i.i < 256 =
    omega (arith, c.requires.ranged.0.most)
    in inside

pub loop-i-preserved : goal.loop-i-preserved
loop-i-preserved c =
    let seen : View =
    view (seen_book c.args.count c.args.marks.now c.args.w.now)
    in
    let inside : c.loop-i.i < 256 =
    omega (arith, c.requires.ranged.0.most)
    in
    let account = c in
    let l = account.loop-i in
    let start = account in
    let pre = start.requires in
    let v = seen in
    let a = start.args in pass_step v a.modes.now l.after l.i c.look.result inside l.invariant
    (rw account.account_at-a.ensures at c.look.ensures ∙ look-by v pre.ranged.1 a.excess.now pre.none_beyond.1 a.modes.now l.i (omega arith))

pub returns : goal.returns
returns c =
    let seen : View =
    view (seen_book c.args.count c.args.marks.now c.args.w.now)
    in
    let l = c.loop-i in
    let start = c in
    let all : l.i ≡ start.args.count = omega arith in
    pass-end seen start.args.modes.now l.after start.requires.ranged.1.some start.requires.none_beyond.0 (rw all at l.invariant)
