-- `codes::own::taking` meets its contract: 17 by the mode, then 12 by the collateral of both rows and what was blocked.
use mathlib.Core.Path.{◌≡◌, sym, ap, ◌∙◌}
use Prim.Native.Nat.{◌+◌}
use native.Mathlib.Omega.{arith}
use lib.Dec.{ltb}
use lib.ListN.{get_or}
use borrow.Author.Tests.{lt-ltb, le-ltb}
use Rattle.rows.specs.View.{blocked_of}
use Rattle.codes.specs.Own.{deemed_under_in, leaves_below}
use Rattle.codes.proofs.Made.{first-line-holds, first-line-fails, no-line-gives-0, under-is}
use Rattle.codes.proofs.own.taking.Goals as goal

pub returns-then-on : goal.returns-then-on
returns-then-on c = first-line-holds 17 _ _ c.if-on.true

pub blocked_with-held-requires : goal.blocked_with-held-requires
blocked_with-held-requires c =
    let under-here : (let a = c.args in c.deemed_under_at.result ≡ get_or (deemed_under_in a.w.now a.needs.now) a.i 0) =
    let s = c in c.deemed_under_at.ensures ∙ sym (under-is s.args.w.now s.args.needs.now s.args.i s.requires.0)
    in
    let s = c in
    (rw c.account_of.ensures (omega (arith, s.requires.1.margin)), rw under-here (omega (arith, s.requires.3)))

pub returns-then-collateral_of-held : goal.returns-then-collateral_of-held
returns-then-collateral_of-held c =
    let under-here : (let a = c.args in c.deemed_under_at.result ≡ get_or (deemed_under_in a.w.now a.needs.now) a.i 0) =
    let s = c in c.deemed_under_at.ensures ∙ sym (under-is s.args.w.now s.args.needs.now s.args.i s.requires.0)
    in
    let below-is : let a = c.args in
    ltb c.collateral_of.result c.blocked_with-held.result ≡ leaves_below a.row a.new (get_or (deemed_under_in a.w.now a.needs.now) a.i 0) =
    let a = c.args in
    let own = c.account_of in
    ap (λ x. ltb x c.blocked_with-held.result) c.collateral_of.ensures
    ∙ ap (ltb _) (c.blocked_with-held.ensures ∙ ap (λ n. blocked_of (own.result.margin + n) own.result.collateral) under-here
    ∙ ap (λ x. blocked_of (x.margin + get_or (deemed_under_in a.w.now a.needs.now) a.i 0) x.collateral) own.ensures)
    in first-line-fails 17 _ _ 12 c.if-on.false (first-line-holds 12 _ _ (sym below-is ∙ lt-ltb _ _ c.if-collateral_of-held.true))

pub returns-else-collateral_of-held : goal.returns-else-collateral_of-held
returns-else-collateral_of-held c =
    let under-here : (let a = c.args in c.deemed_under_at.result ≡ get_or (deemed_under_in a.w.now a.needs.now) a.i 0) =
    let s = c in c.deemed_under_at.ensures ∙ sym (under-is s.args.w.now s.args.needs.now s.args.i s.requires.0)
    in
    let below-is : let a = c.args in
    ltb c.collateral_of.result c.blocked_with-held.result ≡ leaves_below a.row a.new (get_or (deemed_under_in a.w.now a.needs.now) a.i 0) =
    let a = c.args in
    let own = c.account_of in
    ap (λ x. ltb x c.blocked_with-held.result) c.collateral_of.ensures
    ∙ ap (ltb _) (c.blocked_with-held.ensures ∙ ap (λ n. blocked_of (own.result.margin + n) own.result.collateral) under-here
    ∙ ap (λ x. blocked_of (x.margin + get_or (deemed_under_in a.w.now a.needs.now) a.i 0) x.collateral) own.ensures)
    in first-line-fails 17 _ _ 0 c.if-on.false (first-line-fails 12 _ _ 0 (sym below-is ∙ le-ltb _ _ c.if-collateral_of-held.false) no-line-gives-0)
