-- `table::needs::kept_at` meets its contract.
use mathlib.Core.Path.{ap, sym, ◌∙◌}
use Prim.Native.Nat.{◌+◌, ◌<◌}
use native.Mathlib.Omega.{arith}
use borrow.Author.Tests.{le-leb, lt-leb, eq-eqb, ne_eqb}
use Rattle.sums.proofs.Choices.{pick_yes, pick_no}
use Rattle.rows.specs.Rows.{row_at}
use Rattle.rows.specs.Facts.{InRange}
use Rattle.rows.specs.DeemedUnder.{need_to_keep}
use Rattle.table.specs.Facts.{seen_book}
use Rattle.table.proofs.needs.kept_at.Goals as goal

pub returns-then-count-i : goal.returns-then-count-i
returns-then-count-i c = sym (pick_yes _ _ _ (le-leb _ _ c.if-count-i.true))

pub account_at-a-requires : goal.account_at-a-requires
account_at-a-requires c =
    let given : (c.args.i < 256) × InRange (row_at (seen_book 0 c.args.marks.now c.args.w.now) c.args.i) =
    let h = c.requires.0 in (omega (arith, h.most, c.if-count-i.false), h.ranges c.args.i c.if-count-i.false)
    in given

pub overflow_add-result : goal.overflow_add-result
overflow_add-result c =
    let given : (c.args.i < 256) × InRange (row_at (seen_book 0 c.args.marks.now c.args.w.now) c.args.i) =
    let h = c.requires.0 in (omega (arith, h.most, c.if-count-i.false), h.ranges c.args.i c.if-count-i.false)
    in
    let e = c in
    omega (arith, ap (λ a. a.margin) c.account_at-a.ensures, given.1.margin, e.requires.1)

pub returns-then-i-eq0 : goal.returns-then-i-eq0
returns-then-i-eq0 c =
    let e = c in
    let a = e.args in
    ap (λ x. x.margin + a.under) c.account_at-a.ensures
    ∙ ap (λ j. (row_at (seen_book 0 a.marks.now a.w.now) j).margin + a.under) c.if-i-eq0.true
    ∙ sym (pick_no _ _ _ (lt-leb _ _ e.if-count-i.false) ∙ pick_yes _ _ _ (eq-eqb _ 0 c.if-i-eq0.true))

pub need_to_keep-requires : goal.need_to_keep-requires
need_to_keep-requires c =
    let given : (c.args.i < 256) × InRange (row_at (seen_book 0 c.args.marks.now c.args.w.now) c.args.i) =
    let h = c.requires.0 in (omega (arith, h.most, c.if-count-i.false), h.ranges c.args.i c.if-count-i.false)
    in rw c.account_at-a.ensures (omega (arith, given.1.margin), omega (arith, c.requires.1))

pub returns : goal.returns
returns c =
    let e = c in
    c.need_to_keep.ensures ∙ ap (λ a. need_to_keep a e.args.under) c.account_at-a.ensures
    ∙ sym (pick_no _ _ _ (lt-leb _ _ e.if-count-i.false) ∙ pick_no _ _ _ (ne_eqb _ 0 c.if-i-eq0.false))
