-- `codes::own::unpledge` meets its contract: 11, then 17, then 12 by what is left, or the word put.
use mathlib.Core.List.{List}
use mathlib.Core.Path.{◌≡◌, refl, sym, ap, ◌∙◌}
use Prim.Native.Nat.{◌-◌}
use native.Mathlib.Omega.{arith}
use lib.ListN.{get_or}
use borrow.Author.Tests.{lt-ltb, le-ltb}
use Rattle.sums.specs.Table.{Line, first}
use Rattle.rows.specs.declared.Row.{Row}
use Rattle.rows.specs.Rows.{with_pledged}
use Rattle.codes.specs.Own.{deemed_under_in, leaves_below, taking_lines, unpledge_lines}
use Rattle.codes.proofs.Made.{first-line-holds, first-line-fails, refused-answers, put-answers, held-in-range, unpledged-in, pledged-anew}
use Rattle.codes.proofs.own.unpledge.Goals as goal

pub returns-then-row-y : goal.returns-then-row-y
returns-then-row-y c =
    let after : Row → Row =
    λ q. with_pledged q (q.pledged - c.args.y)
    in
    let own : Row → List Line =
    λ q. unpledge_lines q c.args.on (leaves_below q (after q) (get_or (deemed_under_in c.args.w.now c.args.needs.now) c.args.i 0)) c.args.y
    in refused-answers 11 own _ c.row_at-row.ensures (first-line-holds 11 _ _ (lt-ltb _ _ c.if-row-y.true)) (λ z. omega arith)

pub taking-n-requires : goal.taking-n-requires
taking-n-requires c =
    let e = c in
    let s = e in
    let h = held-in-range _ s.requires e.row_at-row.ensures in
    (s.requires.inside, h, rw c.with_pledged-new.ensures (unpledged-in _ s.args.y h), s.requires.most s.args.i)

pub returns-then-n-ne0 : goal.returns-then-n-ne0
returns-then-n-ne0 c =
    let after : Row → Row =
    λ q. with_pledged q (q.pledged - c.args.y)
    in
    let own : Row → List Line =
    λ q. unpledge_lines q c.args.on (leaves_below q (after q) (get_or (deemed_under_in c.args.w.now c.args.needs.now) c.args.i 0)) c.args.y
    in
    let number : (let e = c in c.taking-n.result ≡ first (own e.row_at-row.result)) =
    let e = c in
    let s = e in
    let under = get_or (deemed_under_in s.args.w.now s.args.needs.now) s.args.i 0 in
    first-line-fails 11 _ _ _ (le-ltb _ _ e.if-row-y.false)
    (c.taking-n.ensures ∙ ap (λ q. first (taking_lines s.args.on (leaves_below e.row_at-row.result q under))) c.with_pledged-new.ensures)
    in let e = c in refused-answers _ own _ e.row_at-row.ensures number c.if-n-ne0.true

pub returns : goal.returns
returns c =
    let after : Row → Row =
    λ q. with_pledged q (q.pledged - c.args.y)
    in
    let own : Row → List Line =
    λ q. unpledge_lines q c.args.on (leaves_below q (after q) (get_or (deemed_under_in c.args.w.now c.args.needs.now) c.args.i 0)) c.args.y
    in
    let number : (let e = c in c.taking-n.result ≡ first (own e.row_at-row.result)) =
    let e = c in
    let s = e in
    let under = get_or (deemed_under_in s.args.w.now s.args.needs.now) s.args.i 0 in
    first-line-fails 11 _ _ _ (le-ltb _ _ e.if-row-y.false)
    (c.taking-n.ensures ∙ ap (λ q. first (taking_lines s.args.on (leaves_below e.row_at-row.result q under))) c.with_pledged-new.ensures)
    in
    let new = c in
    let e = new in
    let s = e in
    let row-at = e.row_at-row in
    put-answers own _ row-at.ensures
    (sym c.if-n-ne0.false ∙ number)
    (pledged-anew s.requires.size s.requires.inside _ _ (new.with_pledged-new.ensures ∙ ap after row-at.ensures) refl)
