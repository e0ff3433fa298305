-- `table::needs::members_sum` meets its contract. The invariant: the sum is what the TMs and CPs among the accounts passed are deemed, which fits a word.
use mathlib.Core.Path.{◌≡◌, ap, ◌∙◌}
use Prim.Native.Nat.{ℕ}
use native.Mathlib.Omega.{arith}
use Rattle.rows.specs.declared.Account.{Account}
use Rattle.rows.specs.declared.Book.{Book}
use Rattle.rows.specs.View.{View}
use Rattle.rows.specs.Rows.{view_by}
use Rattle.rows.specs.DeemedUnder.{account_at, member_due}
use Rattle.rows.specs.Inner.{clients_below, members_below, view_as}
use Rattle.rows.proofs.NeedSums.{members-none, members_step, member-most}
use Rattle.rows.proofs.Bounds.{Bounded, members-most, clients-top, bounded-in}
use Rattle.table.specs.Facts.{seen_book}
use Rattle.table.proofs.needs.members_sum.Goals as goal

both : {a a' : Account} {d d' : ℕ} → a ≡ a' → d ≡ d' → member_due a d ≡ member_due a' d'
both p q = cc

pub loop-i-init : goal.loop-i-init
loop-i-init c =
    let book_of : Book =
    seen_book c.args.count c.args.marks.now c.args.w.now
    in
    let seen : View =
    view_as c.args.tenths (view_by c.args.rule book_of)
    in omega (arith, members-none seen)

pub account_as-a-requires : goal.account_as-a-requires
account_as-a-requires c =
    let start = c in
    let most = start.requires.0.most in
    (omega arith, start.requires.0.ranges c.loop-i.i (omega arith))

pub offset_bounds-under-i : goal.offset_bounds-under-i
offset_bounds-under-i c = omega (arith, c.requires.0.most)

pub bounds-under-i : goal.bounds-under-i
bounds-under-i c = omega (arith, c.requires.0.most)

pub member_due-sum-requires : goal.member_due-sum-requires
member_due-sum-requires c =
    let book_of : Book =
    seen_book c.args.count c.args.marks.now c.args.w.now
    in
    let seen : View =
    view_as c.args.tenths (view_by c.args.rule book_of)
    in
    let bounded : Bounded seen 100_000_000_000_000 =
    bounded-in c.args.tenths c.args.rule book_of c.requires.0
    in
    let start = c in
    let i = c.loop-i.i in
    let most = start.requires.0.most in (
      rw c.account_as-a.ensures (bounded.margins i (omega arith)),
      omega (arith, start.requires.1.each i (omega arith), clients-top seen 100_000_000_000_000 bounded i),
    )

pub overflow_add-sum : goal.overflow_add-sum
overflow_add-sum c =
    let book_of : Book =
    seen_book c.args.count c.args.marks.now c.args.w.now
    in
    let seen : View =
    view_as c.args.tenths (view_by c.args.rule book_of)
    in
    let bounded : Bounded seen 100_000_000_000_000 =
    bounded-in c.args.tenths c.args.rule book_of c.requires.0
    in
    let adds : c.member_due-sum.result ≡ member_due (account_at seen c.loop-i.i) (clients_below seen c.loop-i.i c.args.count) =
    let start = c in
    let i = c.loop-i.i in
    let most = start.requires.0.most in
    c.member_due-sum.ensures ∙ both c.account_as-a.ensures (start.requires.1.each i (omega arith))
    in
    let start = c in
    let v = seen in
    let i = c.loop-i.i in
    let most = start.requires.0.most in
    omega (
      arith,
      adds,
      members-most v 100_000_000_000_000 bounded i (omega arith),
      member-most (account_at v i) (clients_below v i v.count),
      bounded.margins i (omega arith),
      clients-top v 100_000_000_000_000 bounded i,
    )

pub loop-i-preserved : goal.loop-i-preserved
loop-i-preserved c =
    let book_of : Book =
    seen_book c.args.count c.args.marks.now c.args.w.now
    in
    let seen : View =
    view_as c.args.tenths (view_by c.args.rule book_of)
    in
    let adds : c.member_due-sum.result ≡ member_due (account_at seen c.loop-i.i) (clients_below seen c.loop-i.i c.args.count) =
    let start = c in
    let i = c.loop-i.i in
    let most = start.requires.0.most in
    c.member_due-sum.ensures ∙ both c.account_as-a.ensures (start.requires.1.each i (omega arith))
    in omega (arith, adds, members_step seen c.loop-i.i)

pub returns : goal.returns
returns c =
    let book_of : Book =
    seen_book c.args.count c.args.marks.now c.args.w.now
    in
    let seen : View =
    view_as c.args.tenths (view_by c.args.rule book_of)
    in c.loop-i.invariant ∙ ap (members_below seen) (omega arith)
