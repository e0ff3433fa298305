-- `embedded::carrying::carry` meets its contract: 1 for bytes that are no book, or by the desk's 1; otherwise the book and the answer are put.
use mathlib.Core.Bool.{true}
use mathlib.Core.Path.{◌≡◌, sym, ap, ◌∙◌}
use borrow.Author.Tests.{not-true, not-false}
use Rattle.table.specs.Words.{turned_back}
use Rattle.bookfile.specs.Facts.{is_two}
use Rattle.rules.specs.Numbered.{verdict_of}
use Rattle.desk.specs.Answers.{refusal_in}
use Rattle.desk.specs.Over.{over_done}
use Rattle.desk.specs.Steps.{step_of}
use Rattle.lent.specs.Held.{book_of}
use Rattle.lent.proofs.Lent.{not-two, two-long}
use Rattle.embedded.proofs.Carries.{no-book, refused, told}
use Rattle.embedded.proofs.carrying.carry.Goals as goal

pub returns-then-not-held : goal.returns-then-not-held
returns-then-not-held c =
    let h = c in
    let a = h.args in
    let whole = no-book a.book.now a.r a.answer.now (not-two a.book.now (sym h.book_in-held.ensures.0 ∙ not-true _ c.if-not-held.true)) in
    record { value = whole.0; book_after = whole.1.0; answer_after = whole.1.1 }

pub returns-then-refusal-eq1 : goal.returns-then-refusal-eq1
returns-then-refusal-eq1 c =
    let two : is_two c.args.book.now ≡ true =
    sym c.book_in-held.ensures.0 ∙ not-false _ c.if-not-held.false
    in
    let done : c.carry_out-done.result ≡ over_done (step_of (book_of c.args.book.now) c.args.r) =
    let p = c in
    c.carry_out-done.ensures.value ∙ ap (λ t. over_done (step_of (turned_back t) p.args.r)) (p.book_in-held.ensures.1 (not-false _ p.if-not-held.false))
    in
    let verdict : refusal_in c.carry_out-done.result.answer.outcome ≡ verdict_of (book_of c.args.book.now) c.args.r =
    let p = c in
    c.carry_out-done.ensures.outcome_value ∙ ap (λ t. verdict_of (turned_back t) p.args.r) (p.book_in-held.ensures.1 (not-false _ p.if-not-held.false))
    in
    let d = c in
    let p = d in
    let a = p.args in
    let whole = refused a.book.now a.r a.answer.now two d.carry_out-done.result done verdict (sym c.refusal_in-refusal.ensures ∙ c.if-refusal-eq1.true) in
    record { value = whole.0; book_after = whole.1.0; answer_after = whole.1.1 }

pub put_back-requires : goal.put_back-requires
put_back-requires c =
    let two : is_two c.args.book.now ≡ true =
    sym c.book_in-held.ensures.0 ∙ not-false _ c.if-not-held.false
    in let p = c in two-long p.args.book.now two

pub returns : goal.returns
returns c =
    let two : is_two c.args.book.now ≡ true =
    sym c.book_in-held.ensures.0 ∙ not-false _ c.if-not-held.false
    in
    let done : c.carry_out-done.result ≡ over_done (step_of (book_of c.args.book.now) c.args.r) =
    let p = c in
    c.carry_out-done.ensures.value ∙ ap (λ t. over_done (step_of (turned_back t) p.args.r)) (p.book_in-held.ensures.1 (not-false _ p.if-not-held.false))
    in
    let verdict : refusal_in c.carry_out-done.result.answer.outcome ≡ verdict_of (book_of c.args.book.now) c.args.r =
    let p = c in
    c.carry_out-done.ensures.outcome_value ∙ ap (λ t. verdict_of (turned_back t) p.args.r) (p.book_in-held.ensures.1 (not-false _ p.if-not-held.false))
    in
    let f = c in
    let d = f in
    let p = d in
    let a = p.args in
    let g = told a.book.now a.r a.answer.now two d.carry_out-done.result done verdict (λ q. c.if-refusal-eq1.false (f.refusal_in-refusal.ensures ∙ q)) in
    record { value = f.refusal_in-refusal.ensures ∙ g.0; book_after = c.put_back.ensures ∙ g.1.0; answer_after = c.put_answer.ensures ∙ g.1.1 }
