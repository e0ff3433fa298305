-- `embedded::closing::loft_close_out` meets its contract.
use mathlib.Core.Bool.{true}
use mathlib.Core.Path.{◌≡◌, refl, sym, ap, ◌∙◌}
use native.Mathlib.Omega.{arith}
use borrow.Author.Tests.{not-true, not-false}
use Rattle.sums.proofs.Choices.{pick_first, pick_second}
use Rattle.table.specs.Words.{turned_back}
use Rattle.closeout.specs.Closing.{no_total, closed_of, room_of}
use Rattle.bookfile.specs.Facts.{is_two}
use Rattle.bookfile.specs.Reading.{book_in}
use Rattle.embedded.specs.Closing.{closed_in, pays_after, total_after}
use Rattle.lent.proofs.Refused.{stays, given}
use Rattle.embedded.proofs.closing.loft_close_out.Goals as goal

pub returns-then-not-held : goal.returns-then-not-held
unfolding closed_in pays_after total_after
returns-then-not-held c =
    let no = sym c.book_in-held.ensures.0 ∙ not-true _ c.if-not-held.true in
    let is = pick_second {w = no_total 1} _ no refl in
    record { value = ap (λ x. x.refusal) is; pays_after = pick_second _ no refl; total_after = stays _ _ (ap (λ x. x.refusal) is) (λ q. omega arith) }

pub returns-then-closed-ne0 : goal.returns-then-closed-ne0
unfolding total_after closed_in pays_after
returns-then-closed-ne0 c =
    let two : is_two c.args.book.now ≡ true =
    sym c.book_in-held.ensures.0 ∙ not-false _ c.if-not-held.false
    in
    let read : c.book_in-held.result.table ≡ book_in c.args.book.now =
    c.book_in-held.ensures.1 (not-false _ c.if-not-held.false)
    in
    let closed : c.close_out-closed.result ≡ closed_in c.args.book.now c.args.losses.now c.args.pays.now =
    let a = c.args in
    pick_first _ two (c.close_out-closed.ensures.answer ∙ ap (λ t. closed_of (turned_back t) a.losses.now a.pays.now) read)
    in
    let paid : room_of (turned_back c.book_in-held.result.table) c.args.losses.now c.args.pays.now
    ≡ pays_after c.args.book.now c.args.losses.now c.args.pays.now =
    let a = c.args in
    pick_first _ two (ap (λ t. room_of (turned_back t) a.losses.now a.pays.now) read)
    in
    let d = c in
    let n = ap (λ x. x.refusal) closed in
    record { value = n; pays_after = d.close_out-closed.ensures.rows ∙ paid; total_after = stays _ _ n c.if-closed-ne0.true }

pub returns : goal.returns
unfolding total_after closed_in pays_after
returns c =
    let two : is_two c.args.book.now ≡ true =
    sym c.book_in-held.ensures.0 ∙ not-false _ c.if-not-held.false
    in
    let read : c.book_in-held.result.table ≡ book_in c.args.book.now =
    c.book_in-held.ensures.1 (not-false _ c.if-not-held.false)
    in
    let closed : c.close_out-closed.result ≡ closed_in c.args.book.now c.args.losses.now c.args.pays.now =
    let a = c.args in
    pick_first _ two (c.close_out-closed.ensures.answer ∙ ap (λ t. closed_of (turned_back t) a.losses.now a.pays.now) read)
    in
    let paid : room_of (turned_back c.book_in-held.result.table) c.args.losses.now c.args.pays.now
    ≡ pays_after c.args.book.now c.args.losses.now c.args.pays.now =
    let a = c.args in
    pick_first _ two (ap (λ t. room_of (turned_back t) a.losses.now a.pays.now) read)
    in
    let d = c in
    let n = ap (λ x. x.refusal) closed in
    let z = c.if-closed-ne0.false in
    record { value = sym z ∙ n; pays_after = d.close_out-closed.ensures.rows ∙ paid; total_after = given _ (sym n ∙ z) (ap (λ x. x.total) closed) }
