-- `embedded::moving::loft_archive` meets its contract.
use mathlib.Core.Bool.{true}
use mathlib.Core.Path.{◌≡◌, refl, sym, ap, ◌∙◌}
use native.Mathlib.Omega.{arith}
use borrow.Author.Tests.{not-true, not-false}
use Rattle.sums.proofs.Choices.{pick_first, pick_second}
use Rattle.table.specs.Words.{turned_back}
use Rattle.bookfile.specs.Facts.{is_two}
use Rattle.bookfile.specs.Reading.{book_in}
use Rattle.bookfile.specs.Written.{written_of}
use Rattle.archival.specs.Archive.{archived_of, archive_room}
use Rattle.lent.specs.Held.{book_of}
use Rattle.embedded.specs.Moving.{archive_refused, archive_book, archive_entries, archive_moved}
use Rattle.lent.proofs.Lent.{two-long}
use Rattle.lent.proofs.Refused.{stays, given}
use Rattle.embedded.proofs.moving.loft_archive.Goals as goal

pub returns-then-not-held : goal.returns-then-not-held
unfolding archive_refused archive_book archive_entries archive_moved
returns-then-not-held c =
    let no = sym c.book_in-held.ensures.0 ∙ not-true _ c.if-not-held.true in
    let n = pick_second _ no refl in
    record { value = n; book_after = stays _ _ n (λ q. omega arith); entries_after = pick_second _ no refl; moved_after = stays _ _ n (λ q. omega arith) }

pub returns-then-got-ne0 : goal.returns-then-got-ne0
unfolding archive_book archive_moved archive_refused archive_entries
returns-then-got-ne0 c =
    let two : is_two c.args.book.now ≡ true =
    sym c.book_in-held.ensures.0 ∙ not-false _ c.if-not-held.false
    in
    let read : c.book_in-held.result.table ≡ book_in c.args.book.now =
    c.book_in-held.ensures.1 (not-false _ c.if-not-held.false)
    in
    let moved : c.archive-got.result ≡ archived_of (book_of c.args.book.now) c.args.entries.now =
    c.archive-got.ensures.value ∙ ap (λ t. archived_of (turned_back t) c.args.entries.now) read
    in
    let number : c.archive-got.result.refusal ≡ archive_refused c.args.book.now c.args.entries.now =
    pick_first 1 two (ap (λ x. x.refusal) moved)
    in
    let put : archive_room (turned_back c.book_in-held.result.table) c.args.entries.now
    ≡ archive_entries c.args.book.now c.args.entries.now =
    pick_first _ two (ap (λ t. archive_room (turned_back t) c.args.entries.now) read)
    in
    let d = c in
    let n = number in
    record { value = n; book_after = stays _ _ n c.if-got-ne0.true; entries_after = d.archive-got.ensures.room_after ∙ put; moved_after = stays _ _ n c.if-got-ne0.true }

pub put_back-requires : goal.put_back-requires
put_back-requires c =
    let two : is_two c.args.book.now ≡ true =
    sym c.book_in-held.ensures.0 ∙ not-false _ c.if-not-held.false
    in let d = c in two-long d.args.book.now two

pub returns : goal.returns
unfolding archive_book archive_moved archive_refused archive_entries
returns c =
    let read : c.book_in-held.result.table ≡ book_in c.args.book.now =
    c.book_in-held.ensures.1 (not-false _ c.if-not-held.false)
    in
    let moved : c.archive-got.result ≡ archived_of (book_of c.args.book.now) c.args.entries.now =
    c.archive-got.ensures.value ∙ ap (λ t. archived_of (turned_back t) c.args.entries.now) read
    in
    let two : is_two c.args.book.now ≡ true =
    sym c.book_in-held.ensures.0 ∙ not-false _ c.if-not-held.false
    in
    let number : c.archive-got.result.refusal ≡ archive_refused c.args.book.now c.args.entries.now =
    pick_first 1 two (ap (λ x. x.refusal) moved)
    in
    let put : archive_room (turned_back c.book_in-held.result.table) c.args.entries.now
    ≡ archive_entries c.args.book.now c.args.entries.now =
    pick_first _ two (ap (λ t. archive_room (turned_back t) c.args.entries.now) read)
    in
    let d = c in
    let z = c.if-got-ne0.false in
    let n = sym number ∙ z in
    record { value = sym n; book_after = given _ n (c.put_back.ensures ∙ ap (λ x. written_of x.table) moved); entries_after = d.archive-got.ensures.room_after ∙ put; moved_after = given _ n (ap (λ x. x.moved) moved) }
