-- `embedded_day::loft_day` meets its contract: 1 for bytes that are no book, or by the run's own word; otherwise the book is put and all is told.
use mathlib.Core.Bool.{true}
use mathlib.Core.List.{[], ◌∷◌}
use mathlib.Core.Path.{◌≡◌, sym, ap, ◌∙◌}
use borrow.Author.Tests.{eq-eqb, ne_eqb, not-true, not-false}
use Rattle.table.specs.Words.{turned_back}
use Rattle.bookfile.specs.Facts.{is_two}
use Rattle.bookfile.specs.Reading.{book_in}
use Rattle.records.specs.Runs.{ran_of, closing_refusal}
use Rattle.records.specs.LineNumbers.{room_for, numbers_room}
use Rattle.run.specs.Over.{over_ran}
use Rattle.lent.proofs.Lent.{not-two, two-long}
use Rattle.embedded_day.proofs.Runs.{unfit, no-book, unsound, carried}
use Rattle.embedded_day.proofs.loft_day.Goals as goal

pub returns-then-told-ne4 : goal.returns-then-told-ne4
returns-then-told-ne4 c =
    let a = c.args in
    let whole = unfit a.book.now a.piece.now a.most a.answers.now a.told.now (ne_eqb _ _ c.if-told-ne4.true) c.unfit.ensures in
    record { value = whole.0; book_after = whole.1.0; answers_after = whole.1.1.0; told_after = whole.1.1.1 }

pub returns-then-not-held : goal.returns-then-not-held
returns-then-not-held c =
    let h = c in
    let a = h.args in
    let whole = no-book a.book.now a.piece.now a.most a.answers.now a.told.now
    (not-two a.book.now (sym h.book_in-held.ensures.0 ∙ not-true _ c.if-not-held.true)) in
    record { value = whole.0; book_after = whole.1.0; answers_after = whole.1.1.0; told_after = whole.1.1.1 }

pub returns-then-word-eq3 : goal.returns-then-word-eq3
returns-then-word-eq3 c =
    let two : is_two c.args.book.now ≡ true =
    sym c.book_in-held.ensures.0 ∙ not-false _ c.if-not-held.false
    in
    let read : c.book_in-held.result.table ≡ book_in c.args.book.now =
    c.book_in-held.ensures.1 (not-false _ c.if-not-held.false)
    in
    let d = c in
    let p = d in
    let a = p.args in
    let e = d.day_with_numbers-ended.ensures in
    let whole = unsound a.book.now a.piece.now a.most a.answers.now a.told.now (eq-eqb _ _ c.if-told-ne4.false) two d.day_with_numbers-ended.result
    (e.value ∙ ap (λ t. over_ran (ran_of (turned_back t) a.piece.now (room_for a.most a.answers.now))) read)
    (e.room_after ∙ ap (λ t. numbers_room (turned_back t) a.piece.now a.most a.answers.now) read)
    (e.closing_value ∙ ap (λ t. closing_refusal (turned_back t)) read)
    (sym c.word_number-word.ensures ∙ c.if-word-eq3.true) in
    record { value = whole.0; book_after = whole.1.0; answers_after = whole.1.1.0; told_after = whole.1.1.1 }

pub put_back-requires : goal.put_back-requires
put_back-requires c =
    let two : is_two c.args.book.now ≡ true =
    sym c.book_in-held.ensures.0 ∙ not-false _ c.if-not-held.false
    in let p = c in two-long p.args.book.now two

pub returns : goal.returns
returns c =
    let two : is_two c.args.book.now ≡ true =
    sym c.book_in-held.ensures.0 ∙ not-false _ c.if-not-held.false
    in
    let read : c.book_in-held.result.table ≡ book_in c.args.book.now =
    c.book_in-held.ensures.1 (not-false _ c.if-not-held.false)
    in
    let d = c in
    let p = d in
    let a = p.args in
    let e = d.day_with_numbers-ended.ensures in
    let x = d.day_with_numbers-ended.result in
    let w = c.word_number-word.ensures in
    let g = carried a.book.now a.piece.now a.most a.answers.now a.told.now (eq-eqb _ _ c.if-told-ne4.false) two x
    (e.value ∙ ap (λ t. over_ran (ran_of (turned_back t) a.piece.now (room_for a.most a.answers.now))) read)
    (e.room_after ∙ ap (λ t. numbers_room (turned_back t) a.piece.now a.most a.answers.now) read)
    (e.closing_value ∙ ap (λ t. closing_refusal (turned_back t)) read)
    (λ q. c.if-word-eq3.false (w ∙ q)) in
    record { value = g.0; book_after = c.put_back.ensures ∙ g.1.0; answers_after = g.1.1.0; told_after = c.put_told.ensures ∙ ap (λ n. n ∷ x.place ∷ x.read ∷ x.done ∷ []) w ∙ g.1.1.1 }
