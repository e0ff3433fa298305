use Rattle.std.proofs.Common.{[], ◌≡◌, false, sym, ap, refl}
use Rattle.sums.specs.Choice.{pick}
use Rattle.rows.specs.Rows.{fresh_book}
use Rattle.table.specs.Words.{turned}
use Rattle.bookfile.specs.Reading.{is_of, is_book, read_of}
use Rattle.feed.specs.Books.{from_held}
use Rattle.feed.proofs.books.none.Goals as goal

-- no bytes are no book
no-book : read_of [] ≡ record { is_book = false; table = turned fresh_book }
unfolding read_of is_book is_of pick
no-book = refl

pub returns : goal.returns
unfolding from_held
returns c = rw c.fresh-table.ensures (sym (ap from_held no-book))
