-- `bookfile::reading::read` meets its contract.
use mathlib.Core.Bool.{true, false}
use mathlib.Core.Path.{◌≡◌, sym, ap, ◌∙◌}
use Rattle.sums.proofs.Choices.{pick_second}
use Rattle.bookfile.specs.Reading.{is_of, read_of}
use Rattle.bookfile.proofs.Tests.{book-long}
use Rattle.bookfile.proofs.Told.{read_by, told}
use Rattle.bookfile.proofs.reading.read.Goals as goal

pub book_by-table-requires : goal.book_by-table-requires
book_by-table-requires c =
    let book : is_of c.version_of-v.result c.args.piece.now ≡ true =
    sym c.is_of.ensures ∙ c.if-is_of.true
    in book-long _ _ book

pub returns-then-is_of : goal.returns-then-is_of
returns-then-is_of c =
    let book : is_of c.version_of-v.result c.args.piece.now ≡ true =
    sym c.is_of.ensures ∙ c.if-is_of.true
    in ap (λ t. record { is_book = true; table = t }) c.book_by-table.ensures ∙ sym (read_by _ _ book)

pub returns : goal.returns
unfolding read_of
returns c =
    let e = c in
    let file = e.args.piece.now in
    pick_second _ (sym (told file) ∙ ap (λ v. is_of v file) (sym e.version_of-v.ensures) ∙ sym e.is_of.ensures ∙ e.if-is_of.false)
    (ap (λ t. record { is_book = false; table = t }) c.fresh-table.ensures)
