-- `codes::own::need_passes_after` meets its contract: the account with its new margin, the CM's and what is deemed under both are what 13's test asks for.
use mathlib.Core.Path.{◌≡◌, sym, ap, ◌∙◌}
use native.Mathlib.Omega.{arith}
use Rattle.rows.specs.Rows.{account_of}
use Rattle.rows.specs.Facts.{InRange}
use Rattle.codes.specs.Own.{account_in, deemed_under_in}
use Rattle.codes.proofs.Made.{change-in-range, held-in-range, margin-in, need-passes-is, deemed-under-most}
use Rattle.codes.proofs.own.need_passes_after.Goals as goal

pub account_of-top-requires : goal.account_of-top-requires
account_of-top-requires c = rw c.row_at.ensures (c.requires.0.ranges 0 (omega arith))

pub account_of-old-requires : goal.account_of-old-requires
account_of-old-requires c = let pre = c.requires in held-in-range _ pre.0 pre.2

pub account_of-requires : goal.account_of-requires
account_of-requires c =
    let new_in : InRange c.with_margin-new.result =
    let pre = c.requires in rw c.with_margin-new.ensures (margin-in _ _ (held-in-range _ pre.0 pre.2) pre.1)
    in new_in

pub deemed_under_after_at-after-requires : goal.deemed_under_after_at-after-requires
deemed_under_after_at-after-requires c =
    let new_in : InRange c.with_margin-new.result =
    let pre = c.requires in rw c.with_margin-new.ensures (margin-in _ _ (held-in-range _ pre.0 pre.2) pre.1)
    in
    let pre = c.requires in
    change-in-range _ _ _ _ pre.0 pre.2 c.account_of-old.ensures c.account_of.ensures new_in

pub need_passes_with-requires : goal.need_passes_with-requires
need_passes_with-requires c =
    let top-is : c.account_of-top.result ≡ account_in c.args.marks.now c.args.w.now 0 =
    c.account_of-top.ensures ∙ ap account_of c.row_at.ensures
    in
    let new_in : InRange c.with_margin-new.result =
    let pre = c.requires in rw c.with_margin-new.ensures (margin-in _ _ (held-in-range _ pre.0 pre.2) pre.1)
    in
    let b = c in
    let t = b in
    let pre = t.requires in
    let g = change-in-range _ _ _ _ pre.0 pre.2 b.account_of-old.ensures b.account_of.ensures new_in in
    (rw top-is (pre.0.ranges 0 (omega arith)).margin, pre.1, omega (arith, deemed-under-most b.account_of-old.result b.account_of.result _ pre.0 g.1 g.3 c.deemed_under_after_at-after.ensures))

pub returns : goal.returns
returns c =
    let top-is : c.account_of-top.result ≡ account_in c.args.marks.now c.args.w.now 0 =
    c.account_of-top.ensures ∙ ap account_of c.row_at.ensures
    in
    let b = c in
    let n = b in
    let t = n in
    let s = t in
    sym (need-passes-is s.args.marks.now s.args.w.now (deemed_under_in s.args.w.now s.args.needs.now) s.args.i s.args.y _ _ _ _ _ _ _ s.requires.2 n.with_margin-new.ensures b.account_of-old.ensures
    b.account_of.ensures top-is c.deemed_under_after_at-after.ensures c.need_passes_with.ensures)
