-- `embedded::asked::loft_standing` meets its contract.
use mathlib.Core.Bool.{true}
use mathlib.Core.Path.{◌≡◌, sym, ap, ◌∙◌}
use borrow.Author.Tests.{eq-eqb, ne_eqb, not-true, not-false}
use Rattle.table.specs.Words.{turned_back}
use Rattle.book.specs.Asked.{standing_of}
use Rattle.bookfile.specs.Facts.{is_two}
use Rattle.lent.specs.Held.{book_of}
use Rattle.lent.proofs.Lent.{not-two}
use Rattle.embedded.proofs.Standing.{unfit, no-book, refuses, answers}
use Rattle.embedded.proofs.asked.loft_standing.Goals as goal

pub returns-then-figures-ne7 : goal.returns-then-figures-ne7
returns-then-figures-ne7 c =
    let a = c.args in
    let whole = unfit a.book.now a.account a.figures.now (ne_eqb _ _ c.if-figures-ne7.true) c.unfit.ensures in
    record { value = whole.0; figures_after = whole.1 }

pub returns-then-not-held : goal.returns-then-not-held
returns-then-not-held c =
    let h = c in
    let a = h.args in
    let whole = no-book a.book.now a.account a.figures.now (not-two a.book.now (sym h.book_in-held.ensures.0 ∙ not-true _ c.if-not-held.true)) in
    record { value = whole.0; figures_after = whole.1 }

pub returns-then-f-ne0 : goal.returns-then-f-ne0
returns-then-f-ne0 c =
    let two : is_two c.args.book.now ≡ true =
    sym c.book_in-held.ensures.0 ∙ not-false _ c.if-not-held.false
    in
    let asked : c.standing-f.result ≡ standing_of (book_of c.args.book.now) c.args.account =
    let p = c in
    c.standing-f.ensures ∙ ap (λ t. standing_of (turned_back t) p.args.account) (p.book_in-held.ensures.1 (not-false _ p.if-not-held.false))
    in
    let d = c in
    let p = d in
    let a = p.args in
    let whole = refuses a.book.now a.account a.figures.now (eq-eqb _ _ c.if-figures-ne7.false) two d.standing-f.result asked c.if-f-ne0.true in
    record { value = whole.0; figures_after = whole.1 }

pub returns : goal.returns
returns c =
    let two : is_two c.args.book.now ≡ true =
    sym c.book_in-held.ensures.0 ∙ not-false _ c.if-not-held.false
    in
    let asked : c.standing-f.result ≡ standing_of (book_of c.args.book.now) c.args.account =
    let p = c in
    c.standing-f.ensures ∙ ap (λ t. standing_of (turned_back t) p.args.account) (p.book_in-held.ensures.1 (not-false _ p.if-not-held.false))
    in
    let d = c in
    let p = d in
    let a = p.args in
    let g = answers a.book.now a.account a.figures.now (eq-eqb _ _ c.if-figures-ne7.false) two d.standing-f.result asked c.if-f-ne0.false in
    record { value = g.0; figures_after = c.put_figures.ensures ∙ g.1 }
