-- `book::blocking::figures` meets its contract.
use mathlib.Core.Path.{◌≡◌, sym, ap, ◌∙◌}
use Prim.Native.Nat.{ℕ}
use native.Mathlib.Omega.{arith}
use Rattle.rows.specs.View.{need, blocked, deemed, free}
use Rattle.rows.specs.Rows.{view}
use Rattle.rows.specs.DeemedUnder.{account_at, need_by}
use Rattle.rows.proofs.KeptNeeds.{need-by}
use Rattle.book.proofs.StandingRefusals.{shown}
use Rattle.table.specs.Facts.{seen_book}
use Rattle.book.proofs.blocking.figures.Goals as goal

pub account_at-a-requires : goal.account_at-a-requires
account_at-a-requires c = (omega (arith, c.requires.0.most, c.requires.2), c.requires.0.ranges c.args.i c.requires.2)

pub returns : goal.returns
returns c =
    let need-is : let a = c.args in
    c.need_by-n.result ≡ need (view (seen_book a.count a.marks.now a.w.now)) a.i =
    let start = c in
    let a = start.args in
    let v = view (seen_book a.count a.marks.now a.w.now) in
    c.need_by-n.ensures ∙ ap (λ x. need_by x a.kept) c.account_at-a.ensures ∙ ap (need_by (account_at v a.i)) start.requires.3
    ∙ sym (need-by v start.requires.1 a.i start.requires.2)
    in
    let k = c in
    let start = k in
    let a = start.args in
    let v = view (seen_book a.count a.marks.now a.w.now) in
    rw (c.only_if.ensures, k.blocked_of-k.ensures, need-is, k.account_at-a.ensures)
    (ap (λ (x : ℕ). record { refusal = 0; collateral = v.collateral a.i; need = need v a.i; blocked = blocked v a.i; deemed = deemed v a.i; free = free v a.i; mode = a.mode; shortfall = x })
    (shown v start.requires.1 a.i))
