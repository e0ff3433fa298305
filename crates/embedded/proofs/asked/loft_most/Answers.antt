-- `embedded::asked::loft_most` meets its contract.
use mathlib.Core.List.{[]}
use mathlib.Core.Path.{◌≡◌, refl, sym, ap, ◌∙◌}
use native.Mathlib.Omega.{arith}
use borrow.Author.Tests.{not-true, not-false}
use Rattle.sums.proofs.Choices.{pick_first, pick_second}
use Rattle.table.specs.Words.{turned_back}
use Rattle.passing.specs.declared.Largest.{Largest}
use Rattle.passing.specs.Most.{most_of}
use Rattle.embedded.specs.Records.{record_of}
use Rattle.embedded.specs.Asked.{largest_in, most_after}
use Rattle.lent.proofs.Refused.{stays, given}
use Rattle.embedded.proofs.asked.loft_most.Goals as goal

pub returns-then-not-held : goal.returns-then-not-held
unfolding largest_in most_after
returns-then-not-held c =
    let a = c.args in
    let none : Largest = record { refusal = 1; amount = 0 } in
    let is = pick_second {w = none} (most_of (turned_back _) (record_of 0 a.code a.named a.account [])) (sym c.book_in-held.ensures.0 ∙ not-true _ c.if-not-held.true) refl in
    record { value = ap (λ x. x.refusal) is; amount_after = stays _ _ (ap (λ x. x.refusal) is) (λ q. omega arith) }

pub returns-then-largest-ne0 : goal.returns-then-largest-ne0
unfolding most_after largest_in
returns-then-largest-ne0 c =
    let found : c.most-largest.result ≡ largest_in c.args.book.now c.args.code c.args.named c.args.account =
    let a = c.args in
    let h = c in
    let book = not-false _ c.if-not-held.false in
    pick_first _ (sym h.book_in-held.ensures.0 ∙ book)
    (c.most-largest.ensures
    ∙ ap (λ t. most_of (turned_back t) c.bare_record.result) (h.book_in-held.ensures.1 book)
    ∙ ap (most_of (turned_back _)) c.bare_record.ensures)
    in
    let n = ap (λ x. x.refusal) found in
    record { value = n; amount_after = stays _ _ n c.if-largest-ne0.true }

pub returns : goal.returns
unfolding most_after largest_in
returns c =
    let found : c.most-largest.result ≡ largest_in c.args.book.now c.args.code c.args.named c.args.account =
    let a = c.args in
    let h = c in
    let book = not-false _ c.if-not-held.false in
    pick_first _ (sym h.book_in-held.ensures.0 ∙ book)
    (c.most-largest.ensures
    ∙ ap (λ t. most_of (turned_back t) c.bare_record.result) (h.book_in-held.ensures.1 book)
    ∙ ap (most_of (turned_back _)) c.bare_record.ensures)
    in
    let is = found in
    let n = ap (λ x. x.refusal) is in
    let z = c.if-largest-ne0.false in
    record { value = sym z ∙ n; amount_after = given _ (sym n ∙ z) (ap (λ x. x.amount) is) }
