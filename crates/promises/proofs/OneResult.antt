-- "Show that it admits one result only": for each public call, under its name, `OneResultOnly` of its own promise, but for the exceptions that docs/AUDIT.md names with their reasons (promises.SystemAside has what is said of them). No clause is copied:
-- `book.needs.Reads.Learnt` is what the check itself makes of the `ensures` clauses of `book::needs` in crates/book/src, and what the proof
-- of each caller is given as `.ensures`; `book_contracts.needs.ended` is the call's signature. `needs-word-for-word` shows it for one call. The check makes
-- no `Learnt` of the reader's three calls: their clauses are written out (`ReaderSays`), and held to the source's below.
use mathlib.Core.List.{List}
use mathlib.Core.Path.{◌≡◌, refl, sym, ap, ◌∙◌}
use Prim.Native.Nat.{ℕ}
use lib.ListN.{length}
use base.Logic.{sep}
use contract.Lifetimes.{Lfts}
use contract.Monad.{fact}
use denote.MutBor.{MutBor}
use denote.Triple.Entry.{Args, Res}
use denote.Triple.Clauses.{AtExit, at_exit}
use borrow.Fn.World.{World}
use Rattle.table.specs.declared.Table.{Table}
use Rattle.table.specs.Words.{turned_back}
use Rattle.book.specs.NeedsListed.{needs_refusal, needs_room}
use Rattle.dayfile.specs.Reading.{place_after}
use Rattle.dayfile.specs.Reader.{moved_to}
use Rattle.table.proofs as table
use Rattle.table.specs.contracts as table_contracts
use Rattle.book.proofs as book
use Rattle.book.specs.contracts as book_contracts
use Rattle.archival.proofs as archival
use Rattle.archival.specs.contracts as archival_contracts
use Rattle.most.proofs as most
use Rattle.most.specs.contracts as most_contracts
use Rattle.merging.proofs as merging
use Rattle.merging.specs.contracts as merging_contracts
use Rattle.statement.proofs as statement
use Rattle.statement.specs.contracts as statement_contracts
use Rattle.dayfile.proofs as dayfile
use Rattle.dayfile.specs.contracts as dayfile_contracts
use Rattle.desk.proofs as desk
use Rattle.desk.specs.contracts as desk_contracts
use Rattle.run.proofs as run
use Rattle.run.specs.contracts as run_contracts
use Rattle.lines.proofs as lines
use Rattle.lines.specs.contracts as lines_contracts
use Rattle.words.proofs as words
use Rattle.words.specs.contracts as words_contracts
use Rattle.closeout.proofs as closeout
use Rattle.closeout.specs.contracts as closeout_contracts
use Rattle.streams.proofs as streams
use Rattle.streams.specs.contracts as streams_contracts
use Rattle.feed.proofs as feed
use Rattle.bookfile.proofs as bookfile
use Rattle.bookfile.specs.contracts as bookfile_contracts
use Rattle.report.proofs as report
use Rattle.report.specs.contracts as report_contracts
use Rattle.currency.proofs as currency
use Rattle.currency.specs.contracts as currency_contracts
use Rattle.exposure.proofs as exposure
use Rattle.exposure.specs.contracts as exposure_contracts
use Rattle.promises.specs.OneResult.{OneResultOnly}
use Rattle.promises.specs.ReaderSays.{new_says, peek_says, next_answer, next_reader, next_says}

-- two results, of which each is what the promise says, are the same; so are two rooms
one-result : {A : Type 0} {said x y : A} → x ≡ said → y ≡ said → x ≡ y
one-result p q = p ∙ sym q

-- What `Learnt` is: the two clauses of `book::needs`, word for word. x comes back, and `after` is in the room then.
pub needs-word-for-word :
    (κs : Lfts 1) (t : Table) (room : MutBor (List ℕ)) (x : ℕ) (after : List ℕ) →
    book.needs.Reads.Learnt κs (t, (room, tt)) x (at_exit book_contracts.needs.ended κs (t, (room, tt)) (tt, (after, tt))) ≡
    ((x ≡ needs_refusal (turned_back t) room.now) × (after ≡ needs_room (turned_back t) room.now))
needs-word-for-word κs t room x after = refl

-- ---- table: the two of an internal crate that take anything

-- a book turned over
pub of-table-turn : OneResultOnly table_contracts.turn.ended table.turn.Reads.Learnt
of-table-turn κs a x y u v p q = (one-result p q, refl)

-- and turned back
pub of-table-turn-back : OneResultOnly table_contracts.turn_back.ended table.turn_back.Reads.Learnt
of-table-turn-back κs a x y u v p q = (one-result p q, refl)

-- ---- book

-- the fresh book
pub of-book-fresh : OneResultOnly book_contracts.fresh.ended book.fresh.Reads.Learnt
of-book-fresh κs a x y u v p q = (one-result p q, refl)

-- whether a book is sound
pub of-book-is-sound : OneResultOnly book_contracts.is_sound.ended book.is_sound.Reads.Learnt
of-book-is-sound κs a x y u v p q = (one-result p q, refl)

-- the same, of a table's arrays where they are
pub of-book-sound-table-sound : OneResultOnly book_contracts.sound.table_sound.ended book.sound.table_sound.Reads.Learnt
of-book-sound-table-sound κs a x y u v p q = (one-result p q, refl)

-- an account's standing
pub of-book-standing : OneResultOnly book_contracts.standing.ended book.standing.Reads.Learnt
of-book-standing κs a x y u v p q = (one-result p q, refl)

-- all needs: the refusal or 0, and the room
pub of-book-needs : OneResultOnly book_contracts.needs.ended book.needs.Reads.Learnt
of-book-needs κs a x y u v p q = (one-result p.0 q.0, ap (λ room. (tt, (room, tt))) (one-result p.1 q.1))

-- an evening sum
pub of-book-amount-sum : OneResultOnly book_contracts.amount_sum.ended book.amount_sum.Reads.Learnt
of-book-amount-sum κs a x y u v p q = (one-result p q, refl)

-- taking over: the refusal or 0, and the table
pub of-book-take-over : OneResultOnly book_contracts.take_over.ended book.take_over.Reads.Learnt
of-book-take-over κs a x y u v p q = (one-result p q, refl)

-- ---- archival

-- retired rows moved to a lent archive
pub of-archival-archive : OneResultOnly archival_contracts.archive.ended archival.archive.Reads.Learnt
of-archival-archive κs a x y u v p q = (one-result p.0 q.0, ap (λ room. (tt, (room, tt))) (one-result p.1 q.1))

-- ---- bookfile

-- the book that bytes are, or that they are none
pub of-bookfile-read : OneResultOnly bookfile_contracts.read.ended bookfile.read.Reads.Learnt
of-bookfile-read κs a x y u v p q = (one-result p q, refl)

-- 0 or the refusal, and the room
pub of-bookfile-write : OneResultOnly bookfile_contracts.write.ended bookfile.write.Reads.Learnt
of-bookfile-write κs a x y u v p q = (one-result p.0 q.0, ap (λ room. (tt, (room, tt))) (one-result p.1 q.1))

-- ---- dayfile

-- a record's length
pub of-dayfile-size : OneResultOnly dayfile_contracts.size.ended dayfile.size.Reads.Learnt
of-dayfile-size κs a x y u v p q = (one-result p q, refl)

-- a record's first fault, or 0
pub of-dayfile-fault-of : OneResultOnly dayfile_contracts.fault_of.ended dayfile.fault_of.Reads.Learnt
of-dayfile-fault-of κs a x y u v p q = (one-result p q, refl)

-- what stands at a place
pub of-dayfile-found-at : OneResultOnly dayfile_contracts.found_at.ended dayfile.found_at.Reads.Learnt
of-dayfile-found-at κs a x y u v p q = (one-result p.0 q.0, refl)

-- what is read there
pub of-dayfile-read-at : OneResultOnly dayfile_contracts.read_at.ended dayfile.read_at.Reads.Learnt
of-dayfile-read-at κs a x y u v p q = (one-result p.0 q.0, refl)

-- how many bytes were written or the refusal, and the room
pub of-dayfile-write : OneResultOnly dayfile_contracts.write.ended dayfile.write.Reads.Learnt
of-dayfile-write κs a x y u v p q = (one-result p.0.0 q.0.0, ap (λ room. (tt, (room, tt))) (one-result p.1 q.1))

-- in every model of the logic the calls' clauses are those facts and nothing else
module _ (w : World) where
  new-clause :
      (κs : Lfts 1) (a : Args dayfile_contracts.reader.new.signature κs) (x : Res dayfile_contracts.reader.new.signature κs) (e : AtExit dayfile_contracts.reader.new.ended κs) →
      (dayfile_contracts.reader.new.clauses w.𝓛 w.𝓜.mem w.𝓡.run κs a).ensures tt x e ≡ fact w.𝓤 (new_says κs a x e)
  new-clause κs a x e = refl

  peek-clause :
      (κs : Lfts 1) (a : Args dayfile_contracts.reader.peek.signature κs) (x : Res dayfile_contracts.reader.peek.signature κs) (e : AtExit dayfile_contracts.reader.peek.ended κs) →
      (dayfile_contracts.reader.peek.clauses w.𝓛 w.𝓜.mem w.𝓡.run κs a).ensures tt x e ≡ fact w.𝓤 (peek_says κs a x e)
  peek-clause κs a x e = refl

  next-clauses :
      (κs : Lfts 2) (a : Args dayfile_contracts.reader.next.signature κs) (x : Res dayfile_contracts.reader.next.signature κs) (e : AtExit dayfile_contracts.reader.next.ended κs) →
      (dayfile_contracts.reader.next.clauses w.𝓛 w.𝓜.mem w.𝓡.run κs a).ensures tt x e ≡
      sep w.𝓤 (fact w.𝓤 (next_answer κs a x e)) (fact w.𝓤 (next_reader κs a x e))
  next-clauses κs a x e = refl

-- the reader that is made
pub of-dayfile-reader-new : OneResultOnly dayfile_contracts.reader.new.ended new_says
of-dayfile-reader-new κs a x y u v p q = (one-result p q, refl)

-- what stands at its place
pub of-dayfile-reader-peek : OneResultOnly dayfile_contracts.reader.peek.ended peek_says
of-dayfile-reader-peek κs a x y u v p q = (one-result p q, refl)

-- the same and the reader after it, whose place the answer says
pub of-dayfile-reader-next : OneResultOnly dayfile_contracts.reader.next.ended next_says
of-dayfile-reader-next κs a x y u v p q =
    let same : x ≡ y = one-result p.0 q.0 in
    (same, ap (λ r. (r, tt)) (p.1 ∙ ap (λ z. moved_to a.0.now (place_after z a.0.now.place)) same ∙ sym q.1))

-- ---- statement

-- a TM's statement held against the book
pub of-statement-check : OneResultOnly statement_contracts.check.ended statement.check.Reads.Learnt
of-statement-check κs a x y u v p q = (one-result p q, refl)

-- ---- most

-- how much would have passed
pub of-most-most : OneResultOnly most_contracts.most.ended most.most.Reads.Learnt
of-most-most κs a x y u v p q = (one-result p q, refl)

-- ---- merging

-- two counters' day files made one
pub of-merging-merge : OneResultOnly merging_contracts.merge.ended merging.merge.Reads.Learnt
of-merging-merge κs a x y u v p q = (one-result p.0 q.0, ap (λ room. (tt, (tt, (tt, (room, tt))))) (one-result p.1 q.1))

-- ---- desk

-- the answer to a record, and the book after it
pub of-desk-carry-out : OneResultOnly desk_contracts.carry_out.ended desk.carry_out.Reads.Learnt
of-desk-carry-out κs a x y u v p q = (one-result p.0 q.0, refl)

-- the answer to what stands at a place, the book and the place after it
pub of-desk-carry-out-next : OneResultOnly desk_contracts.carry_out_next.ended desk.carry_out_next.Reads.Learnt
of-desk-carry-out-next κs a x y u v p q = (one-result p.0 q.0, refl)

-- ---- run

-- the book after a piece, the place, the closing word and the counts
pub of-run-day : OneResultOnly run_contracts.day.ended run.day.Reads.Learnt
of-run-day κs a x y u v p q = (one-result p.0 q.0, refl)

-- the same, and the room with each record's numbers
pub of-run-day-with-numbers : OneResultOnly run_contracts.day_with_numbers.ended run.day_with_numbers.Reads.Learnt
of-run-day-with-numbers κs a x y u v p q = (one-result p.0 q.0, ap (λ room. (tt, (tt, (tt, (room, tt))))) (one-result p.1.0 q.1.0))

-- ---- lines

-- what a day gives and how long the text is, and the room with the records' lines
pub of-lines-lines : OneResultOnly lines_contracts.lines.ended lines.lines.Reads.Learnt
of-lines-lines κs a x y u v p q = (one-result p.0 q.0, ap (λ room. (tt, (tt, (tt, (room, tt))))) (one-result p.1 q.1))

-- how long the lines are, and the room with them
pub of-lines-lines-of-numbers : OneResultOnly lines_contracts.lines_of_numbers.ended lines.lines_of_numbers.Reads.Learnt
of-lines-lines-of-numbers κs a x y u v p q = (one-result p.0 q.0, ap (λ room. (tt, (tt, (room, tt)))) (one-result p.1 q.1))

-- how long the closing line is, and the room with it
pub of-lines-closing-line : OneResultOnly lines_contracts.closing_line.ended lines.closing_line.Reads.Learnt
of-lines-closing-line κs a x y u v p q = (one-result p.0 q.0, ap (λ room. (tt, (tt, (tt, (room, tt))))) (one-result p.1 q.1))

-- ---- words

-- what a line says
pub of-words-say-line-says : OneResultOnly words_contracts.say.line_says.ended words.say.line_says.Reads.Learnt
of-words-say-line-says κs a x y u v p q = (one-result p q, refl)

-- the number at a place
pub of-words-scan-number-at : OneResultOnly words_contracts.scan.number_at.ended words.scan.number_at.Reads.Learnt
of-words-scan-number-at κs a x y u v p q = (one-result p q, refl)

-- whether nothing more stands in the line
pub of-words-scan-ends-at : OneResultOnly words_contracts.scan.ends_at.ended words.scan.ends_at.Reads.Learnt
of-words-scan-ends-at κs a x y u v p q = (one-result p q, refl)

-- where a line ends
pub of-words-piece-line-end : OneResultOnly words_contracts.piece.line_end.ended words.piece.line_end.Reads.Learnt
of-words-piece-line-end κs a x y u v p q = (one-result p q, refl)

-- the running serial after a line's bytes
pub of-words-serial-moved : OneResultOnly words_contracts.serial.moved.ended words.serial.moved.Reads.Learnt
of-words-serial-moved κs a x y u v p q = (one-result p q, refl)

-- how many bytes a line means, or its fault, and the room with them
pub of-words-one-bytes-of-line : OneResultOnly words_contracts.one.bytes_of_line.ended words.one.bytes_of_line.Reads.Learnt
of-words-one-bytes-of-line κs a x y u v p q = (one-result p.0 q.0, ap (λ room. (tt, (tt, (room, tt)))) (one-result p.1 q.1))

-- how long a record's line is, or the refusal, and the room with it
pub of-words-one-write-line : OneResultOnly words_contracts.one.write_line.ended words.one.write_line.Reads.Learnt
of-words-one-write-line κs a x y u v p q = (one-result p.0 q.0, ap (λ room. (tt, (tt, (room, tt)))) (one-result p.1 q.1))

-- the same of bytes in hexadecimal
pub of-words-one-write-raw : OneResultOnly words_contracts.one.write_raw.ended words.one.write_raw.Reads.Learnt
of-words-one-write-raw κs a x y u v p q = (one-result p.0 q.0, ap (λ room. (tt, (room, tt))) (one-result p.1 q.1))

-- what is taken of a piece of text, and the room with the bytes that it means
pub of-words-piece-bytes-of-text : OneResultOnly words_contracts.piece.bytes_of_text.ended words.piece.bytes_of_text.Reads.Learnt
of-words-piece-bytes-of-text κs a x y u v p q = (one-result p.0 q.0, ap (λ room. (tt, (tt, (tt, (room, tt))))) (one-result p.1 q.1))

-- what is taken of a piece of a day file, and the room with its lines
pub of-words-piece-text-of-bytes : OneResultOnly words_contracts.piece.text_of_bytes.ended words.piece.text_of_bytes.Reads.Learnt
of-words-piece-text-of-bytes κs a x y u v p q = (one-result p.0 q.0, ap (λ room. (tt, (tt, (tt, (room, tt))))) (one-result p.1 q.1))

-- ---- closeout

-- the refusal or 0 with the total, and the room with each account's four amounts
pub of-closeout-close-out : OneResultOnly closeout_contracts.close_out.ended closeout.close_out.Reads.Learnt
of-closeout-close-out κs a x y u v p q = (one-result p.0 q.0, ap (λ room. (tt, (tt, (room, tt)))) (one-result p.1 q.1))

-- ---- currency

-- the record that sets a margin, or the refusal
pub of-currency-margin : OneResultOnly currency_contracts.margin.ended currency.margin.Reads.Learnt
of-currency-margin κs a x y u v p q = (one-result p.0 q.0, refl)

-- ---- exposure

-- what a client's two figures come to, or 22
pub of-exposure-intraday : OneResultOnly exposure_contracts.intraday.ended exposure.intraday.Reads.Learnt
of-exposure-intraday κs a x y u v p q = (one-result p q, refl)

-- and its four of the end of day
pub of-exposure-end-of-day : OneResultOnly exposure_contracts.end_of_day.ended exposure.end_of_day.Reads.Learnt
of-exposure-end-of-day κs a x y u v p q = (one-result p q, refl)

-- the record with both, or the refusal
pub of-exposure-margin : OneResultOnly exposure_contracts.margin.ended exposure.margin.Reads.Learnt
of-exposure-margin κs a x y u v p q = (one-result p.0 q.0, refl)

-- 0 or 15 for a list of clients, and the room
pub of-exposure-lists-exposures : OneResultOnly exposure_contracts.lists.exposures.ended exposure.lists.exposures.Reads.Learnt
of-exposure-lists-exposures κs a x y u v p q = (one-result p.0 q.0, ap (λ room. (tt, (tt, (room, tt)))) (one-result p.1 q.1))

-- ---- report: its texts

-- how long the standings' lines are, and the room with them
pub of-report-standings-text : OneResultOnly report_contracts.standings_text.ended report.standings_text.Reads.Learnt
of-report-standings-text κs a x y u v p q = (one-result p.0 q.0, ap (λ room. (tt, (room, tt))) (one-result p.1 q.1))

-- how long the lines of all rows held are, and the room with them
pub of-report-holdings-text : OneResultOnly report_contracts.holdings_text.ended report.holdings_text.Reads.Learnt
of-report-holdings-text κs a x y u v p q = (one-result p.0 q.0, ap (λ room. (tt, (room, tt))) (one-result p.1 q.1))

-- how long the needs' lines are, and the room with them
pub of-report-needs-text : OneResultOnly report_contracts.needs_text.ended report.needs_text.Reads.Learnt
of-report-needs-text κs a x y u v p q = (one-result p.0 q.0, ap (λ room. (tt, (room, tt))) (one-result p.1 q.1))

-- how long the close-out's lines are, and the room with them
pub of-report-close-out-text : OneResultOnly report_contracts.close_out_text.ended report.close_out_text.Reads.Learnt
of-report-close-out-text κs a x y u v p q = (one-result p.0 q.0, ap (λ room. (tt, (tt, (tt, (tt, (tt, (room, tt))))))) (one-result p.1 q.1))

-- ---- streams: what it gives without the system's answers

-- whether there is a word at a place
pub of-streams-words-is-there : OneResultOnly streams_contracts.words.is_there.ended streams.words.is_there.Reads.Learnt
of-streams-words-is-there κs a x y u v p q = (one-result p q, refl)

-- whether there are too many words
pub of-streams-words-too-many : OneResultOnly streams_contracts.words.too_many.ended streams.words.too_many.Reads.Learnt
of-streams-words-too-many κs a x y u v p q = (one-result p q, refl)

-- whether a word is just these bytes
pub of-streams-words-is-same : OneResultOnly streams_contracts.words.is_same.ended streams.words.is_same.Reads.Learnt
of-streams-words-is-same κs a x y u v p q = (one-result p q, refl)

-- what was read of a file that may have so many bytes
pub of-streams-files-within : OneResultOnly streams_contracts.files.within.ended streams.files.within.Reads.Learnt
of-streams-files-within κs a x y u v p q = (one-result p q, refl)
