-- `embedded::moving::loft_take_over` meets its contract.
use mathlib.Core.Bool.{true}
use mathlib.Core.Path.{◌≡◌, refl, sym, ap, ◌∙◌}
use native.Mathlib.Omega.{arith}
use borrow.Author.Tests.{not-true, not-false}
use Rattle.sums.proofs.Choices.{pick_first, pick_second}
use Rattle.table.specs.Words.{turned_back}
use Rattle.book.specs.TakeOver.{take_over_refusal, taken_over}
use Rattle.bookfile.specs.Facts.{is_two}
use Rattle.bookfile.specs.Reading.{book_in}
use Rattle.bookfile.specs.Written.{written_of}
use Rattle.lent.specs.Held.{bytes_of}
use Rattle.embedded.specs.Moving.{take_over_refused, taken_over_book}
use Rattle.lent.proofs.Lent.{two-long}
use Rattle.lent.proofs.Refused.{stays, given}
use Rattle.embedded.proofs.moving.loft_take_over.Goals as goal

pub returns-then-not-held : goal.returns-then-not-held
unfolding take_over_refused taken_over_book
returns-then-not-held c =
    let n = pick_second _ (sym c.book_in-held.ensures.0 ∙ not-true _ c.if-not-held.true) refl in
    record { value = n; book_after = stays _ _ n (λ q. omega arith) }

pub returns-then-taken-ne0 : goal.returns-then-taken-ne0
unfolding taken_over_book take_over_refused
returns-then-taken-ne0 c =
    let two : is_two c.args.book.now ≡ true =
    sym c.book_in-held.ensures.0 ∙ not-false _ c.if-not-held.false
    in
    let read : c.book_in-held.result.table ≡ book_in c.args.book.now =
    c.book_in-held.ensures.1 (not-false _ c.if-not-held.false)
    in
    let number : c.take_over-taken.result.refusal ≡ take_over_refused c.args.book.now =
    pick_first 1 two (ap (λ x. x.refusal) c.take_over-taken.ensures ∙ ap (λ t. take_over_refusal (turned_back t)) read)
    in
    let n = number in
    record { value = n; book_after = stays _ _ n c.if-taken-ne0.true }

pub put_back-requires : goal.put_back-requires
put_back-requires c =
    let two : is_two c.args.book.now ≡ true =
    sym c.book_in-held.ensures.0 ∙ not-false _ c.if-not-held.false
    in let d = c in two-long d.args.book.now two

pub returns : goal.returns
unfolding taken_over_book take_over_refused
returns c =
    let read : c.book_in-held.result.table ≡ book_in c.args.book.now =
    c.book_in-held.ensures.1 (not-false _ c.if-not-held.false)
    in
    let two : is_two c.args.book.now ≡ true =
    sym c.book_in-held.ensures.0 ∙ not-false _ c.if-not-held.false
    in
    let number : c.take_over-taken.result.refusal ≡ take_over_refused c.args.book.now =
    pick_first 1 two (ap (λ x. x.refusal) c.take_over-taken.ensures ∙ ap (λ t. take_over_refusal (turned_back t)) read)
    in
    let d = c in
    let n = sym number ∙ c.if-taken-ne0.false in
    record { value = sym n; book_after = given _ n (c.put_back.ensures ∙ ap (λ x. written_of x.table) d.take_over-taken.ensures ∙ ap (λ t. bytes_of (taken_over (turned_back t))) read) }
