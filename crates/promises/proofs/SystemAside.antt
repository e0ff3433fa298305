-- "Show that it admits one result only; put any exception in docs/ and say why.": the exceptions of docs/AUDIT.md that some statement can be made of. What the system answers no promise can say: how many bytes came,
-- how many were taken, whether a call failed, how many words a program was started with and which bytes they have. Where it answered alike, the results are the same. `read_all`, `read_input`
-- and `read_named` give only what it answered, and have no statement here.
use mathlib.Core.Bool.{true, false, ◌&&◌, false≢true}
use Rattle.std.specs.Prelude.{Option, Some, None, is_some, IfSome}
use mathlib.Core.List.{List}
use mathlib.Core.Path.{◌≡◌, refl, sym, ap, ◌∙◌}
use Prim.Native.Nat.{ℕ, ◌≤◌}
use lib.Dec.{ltb}
use lib.ListN.{length}
use contract.Lifetimes.{Lfts}
use denote.Param.Laws.{Laws}
use denote.RattleType.{RattleType}
use mir.Syntax.{Dict}
use Rattle.std.specs.declared.io.traits.Write.{Ghosts}
use denote.Triple.Entry.{Args, Res}
use denote.Triple.Clauses.{AtExit}
use Rattle.table.specs.Words.{turned_back}
use Rattle.book.specs.Sound.{sound_b}
use Rattle.sums.specs.Choice.{pick}
use Rattle.numbers.specs.Bytes.{Bytes}
use Rattle.streams.specs.declared.Moved.{Moved}
use Rattle.streams.specs.Calls.{failed_by}
use Rattle.streams.specs.Words.{is_there, too_many, same_bytes, help_word}
use Rattle.streams.proofs.Taken.{all-taken}
use Rattle.bookfile.specs.Reading.{read_of}
use Rattle.feed.specs.Fed.{no_day, whole_day, explained_day}
use Rattle.feed.specs.Books.{names_file, fresh_from, from_held, went_to, nowhere}
use Rattle.table.proofs as table
use Rattle.book.proofs as book
use Rattle.archival.proofs as archival
use Rattle.most.proofs as most
use Rattle.merging.proofs as merging
use Rattle.statement.proofs as statement
use Rattle.dayfile.proofs as dayfile
use Rattle.desk.proofs as desk
use Rattle.run.proofs as run
use Rattle.lines.proofs as lines
use Rattle.closeout.proofs as closeout
use Rattle.streams.proofs as streams
use Rattle.streams.specs.contracts as streams_contracts
use Rattle.feed.proofs as feed
use Rattle.feed.specs.contracts as feed_contracts
use Rattle.wording.specs.Wording.{in_text, day_within, no_words, worded_of}
use Rattle.wording.proofs as wording
use Rattle.wording.specs.contracts as wording_contracts
use Rattle.bookfile.proofs as bookfile
use Rattle.report.proofs as report
use Rattle.report.specs.contracts as report_contracts
use Rattle.currency.proofs as currency
use Rattle.exposure.proofs as exposure

-- two ends of a read or a write
same-moved : (x y : Moved) → x.failed ≡ y.failed → x.count ≡ y.count → x ≡ y
same-moved x y f e = ap (λ t. record { failed = t; count = x.count }) f ∙ ap (λ n. record { failed = y.failed; count = n }) e

-- of a write that didn't fail
one-moved : (x y : Moved) → x.failed ≡ false → y.failed ≡ false → x.count ≡ y.count → x ≡ y
one-moved x y f g e = same-moved x y (f ∙ sym g) e

-- of a text of n bytes, which fails where not all was taken
as-taken : (x y : Moved) (n : ℕ) → (x.count ≤ n) × (x.failed ≡ ltb x.count n) → (y.count ≤ n) × (y.failed ≡ ltb y.count n)
    → (x.count ≡ y.count → x ≡ y) × (x.failed ≡ false → y.failed ≡ false → x ≡ y)
as-taken x y n p q =
    (λ e. same-moved x y (p.1 ∙ ap (λ k. ltb k n) e ∙ sym q.1) e, λ f g. one-moved x y f g (all-taken x n p.0 p.1 f ∙ sym (all-taken y n q.0 q.1 g)))

-- ---- report. They print: no promise can say what standard output holds.

-- How much of the closing line was handed over: all of it, unless a write failed, which no promise can say. Where as many bytes were taken, and where none failed, the results are the same.
pub of-report-closing :
    (κs : Lfts 2) (a : Args report_contracts.closing.signature κs) (x y : Res report_contracts.closing.signature κs) (e : AtExit report_contracts.closing.ended κs)
    (p : report.closing.Reads.Learnt κs a x e) (q : report.closing.Reads.Learnt κs a y e) →
    (x.count ≡ y.count → x ≡ y) × (x.failed ≡ false → y.failed ≡ false → x ≡ y)
of-report-closing κs a x y e p q = as-taken x y _ p q

-- of the standings' lines
pub of-report-standings :
    (κs : Lfts 2) (a : Args report_contracts.standings.signature κs) (x y : Res report_contracts.standings.signature κs) (e : AtExit report_contracts.standings.ended κs)
    (p : report.standings.Reads.Learnt κs a x e) (q : report.standings.Reads.Learnt κs a y e) →
    (x.count ≡ y.count → x ≡ y) × (x.failed ≡ false → y.failed ≡ false → x ≡ y)
of-report-standings κs a x y e p q = as-taken x y _ p q

-- of the lines of all rows held
pub of-report-holdings :
    (κs : Lfts 2) (a : Args report_contracts.holdings.signature κs) (x y : Res report_contracts.holdings.signature κs) (e : AtExit report_contracts.holdings.ended κs)
    (p : report.holdings.Reads.Learnt κs a x e) (q : report.holdings.Reads.Learnt κs a y e) →
    (x.count ≡ y.count → x ≡ y) × (x.failed ≡ false → y.failed ≡ false → x ≡ y)
of-report-holdings κs a x y e p q = as-taken x y _ p q

-- of the needs' lines
pub of-report-needs :
    (κs : Lfts 2) (a : Args report_contracts.needs.signature κs) (x y : Res report_contracts.needs.signature κs) (e : AtExit report_contracts.needs.ended κs)
    (p : report.needs.Reads.Learnt κs a x e) (q : report.needs.Reads.Learnt κs a y e) →
    (x.count ≡ y.count → x ≡ y) × (x.failed ≡ false → y.failed ≡ false → x ≡ y)
of-report-needs κs a x y e p q = as-taken x y _ p q

-- ---- streams

-- How much of a text was written: where as many bytes were taken the results are the same, and where none failed all were.
pub of-streams-write-all :
    (F : RattleType) (laws : Laws F) (write : Ghosts F.Denot) (dict : Dict) (κs : Lfts 3) (a : Args (streams_contracts.write_all.signature F) κs)
    (x y : Res (streams_contracts.write_all.signature F) κs) (e : AtExit (streams_contracts.write_all.ended F write dict) κs)
    (p : streams.write_all.Reads.Learnt F laws write dict κs a x e) (q : streams.write_all.Reads.Learnt F laws write dict κs a y e) →
    (x.count ≡ y.count → x ≡ y) × (x.failed ≡ false → y.failed ≡ false → x ≡ y)
of-streams-write-all F laws write dict κs a x y e p q = as-taken x y _ p q

-- the same of standard output
pub of-streams-standard-write-output :
    (κs : Lfts 3) (a : Args streams_contracts.standard.write_output.signature κs) (x y : Res streams_contracts.standard.write_output.signature κs) (e : AtExit streams_contracts.standard.write_output.ended κs)
    (p : streams.standard.write_output.Reads.Learnt κs a x e) (q : streams.standard.write_output.Reads.Learnt κs a y e) →
    (x.count ≡ y.count → x ≡ y) × (x.failed ≡ false → y.failed ≡ false → x ≡ y)
of-streams-standard-write-output κs a x y e p q = as-taken x y _ p q

-- A file that is replaced: where both failed or neither did, the results are the same.
pub of-streams-files-replace-named :
    (κs : Lfts 4) (a : Args streams_contracts.files.replace_named.signature κs) (x y : Res streams_contracts.files.replace_named.signature κs) (e : AtExit streams_contracts.files.replace_named.ended κs)
    (p : streams.files.replace_named.Reads.Learnt κs a x e) (q : streams.files.replace_named.Reads.Learnt κs a y e) →
    x.failed ≡ y.failed → x ≡ y
of-streams-files-replace-named κs a x y e p q luck = same-moved x y luck (p ∙ ap (λ t. pick t 0 (length a.1.1.1.1.0.now)) luck ∙ sym q)

-- A file that is opened: where the system answered alike, the results are the same.
pub of-streams-files-open-named :
    (κs : Lfts 3) (a : Args streams_contracts.files.open_named.signature κs) (x y : Res streams_contracts.files.open_named.signature κs) (e : AtExit streams_contracts.files.open_named.ended κs)
    (p : streams.files.open_named.Reads.Learnt κs a x e) (q : streams.files.open_named.Reads.Learnt κs a y e) →
    x.file ≡ y.file → x ≡ y
of-streams-files-open-named κs a x y e p q luck =
    ap (λ t. record { failed = t; file = x.file }) (p ∙ ap failed_by luck ∙ sym q) ∙ ap (λ n. record { failed = y.failed; file = n }) luck

-- of two ends of a text of n bytes that was told, or wasn't asked for
one-told : (n : ℕ) (x y : Option Moved) → is_some x ≡ is_some y → IfSome x (λ m. (m.count ≤ n) × (m.failed ≡ ltb m.count n)) → IfSome y (λ m. (m.count ≤ n) × (m.failed ≡ ltb m.count n))
    → ((m k : Moved) → x ≡ Some m → y ≡ Some k → m.count ≡ k.count) → x ≡ y
one-told n None None e p q taken = refl
one-told n None (Some k) e p q taken = absurd (false≢true e)
one-told n (Some m) None e p q taken = absurd (false≢true (sym e))
one-told n (Some m) (Some k) e p q taken = ap Some ((as-taken m k n p q).0 (taken m k refl refl))

-- Whether help was asked for: where the first word is the same, and as many bytes of the help were taken.
pub of-streams-standard-help :
    (κs : Lfts 2) (a : Args streams_contracts.standard.help.signature κs) (x y : Res streams_contracts.standard.help.signature κs) (e : AtExit streams_contracts.standard.help.ended κs)
    (p : streams.standard.help.Reads.Learnt κs a x e) (q : streams.standard.help.Reads.Learnt κs a y e) →
    p.word ≡ q.word → ((m k : Moved) → x ≡ Some m → y ≡ Some k → m.count ≡ k.count) → x ≡ y
of-streams-standard-help κs a x y e p q same taken =
    one-told (length a.1.0.now) x y (p.asked ∙ ap (λ l. same_bytes l help_word) same ∙ sym q.asked) p.told q.told taken

-- Whether there are too many words: where there are as many.
pub of-streams-standard-too-many-words :
    (κs : Lfts 2) (a : Args streams_contracts.standard.too_many_words.signature κs) (x y : Res streams_contracts.standard.too_many_words.signature κs) (e : AtExit streams_contracts.standard.too_many_words.ended κs)
    (p : streams.standard.too_many_words.Reads.Learnt κs a x e) (q : streams.standard.too_many_words.Reads.Learnt κs a y e) →
    p.count ≡ q.count → x ≡ y
of-streams-standard-too-many-words κs a x y e p q same = p.is ∙ ap (λ n. too_many n a.1.1.0) same ∙ sym q.is

-- ---- wording: a file that comes in pieces, turned into the other form. Where the bytes that came are the same, and both failed or neither, so are the results.

-- A day file in words.
pub of-wording-in-words :
    (κs : Lfts 2) (a : Args wording_contracts.in_words.signature κs) (x y : Res wording_contracts.in_words.signature κs) (e : AtExit wording_contracts.in_words.ended κs)
    (p : wording.in_words.Reads.Learnt κs a x e) (q : wording.in_words.Reads.Learnt κs a y e) →
    p.input ≡ q.input → x.failed ≡ y.failed → x ≡ y
of-wording-in-words κs a x y e p q same luck =
    p.is ∙ ap (λ t. pick t no_words (worded_of true (in_text a.1.1.0 p.input))) luck ∙ ap (λ s. pick y.failed no_words (worded_of true (in_text a.1.1.0 s))) same ∙ sym q.is

-- A text judged.
pub of-wording-judged :
    (κs : Lfts 2) (a : Args wording_contracts.judged.signature κs) (x y : Res wording_contracts.judged.signature κs) (e : AtExit wording_contracts.judged.ended κs)
    (p : wording.judged.Reads.Learnt κs a x e) (q : wording.judged.Reads.Learnt κs a y e) →
    p.input ≡ q.input → x.failed ≡ y.failed → x ≡ y
of-wording-judged κs a x y e p q same luck =
    p.is ∙ ap (λ t. pick t no_words (worded_of false (day_within a.1.1.1.0 p.input))) luck ∙ ap (λ s. pick y.failed no_words (worded_of false (day_within a.1.1.1.0 s))) same ∙ sym q.is

-- A text as a day file.
pub of-wording-as-bytes :
    (κs : Lfts 2) (a : Args wording_contracts.as_bytes.signature κs) (x y : Res wording_contracts.as_bytes.signature κs) (e : AtExit wording_contracts.as_bytes.ended κs)
    (p : wording.as_bytes.Reads.Learnt κs a x e) (q : wording.as_bytes.Reads.Learnt κs a y e) →
    p.input ≡ q.input → x.failed ≡ y.failed → x ≡ y
of-wording-as-bytes κs a x y e p q same luck =
    p.is ∙ ap (λ t. pick t no_words (worded_of true (day_within a.1.1.1.0 p.input))) luck ∙ ap (λ s. pick y.failed no_words (worded_of true (day_within a.1.1.1.0 s))) same ∙ sym q.is

-- ---- feed. It prints the records' lines where that is asked for: how many bytes of them is said, and no promise can say which bytes standard output holds.

-- The day of standard input: its promise is that some bytes came, of which this is the day, unless a read or a write failed. Where the bytes that came are
-- the same, and neither failed or both did, so are the results,
pub of-feed-whole-day :
    (κs : Lfts 2) (a : Args feed_contracts.whole_day.signature κs) (x y : Res feed_contracts.whole_day.signature κs) (e : AtExit feed_contracts.whole_day.ended κs)
    (p : feed.whole_day.Reads.Learnt κs a x e) (q : feed.whole_day.Reads.Learnt κs a y e) →
    p.input ≡ q.input → x.failed ≡ y.failed → x ≡ y
of-feed-whole-day κs a x y e p q same luck =
    let day = whole_day a.1.1.0 (turned_back a.1.1.1.0) in
    let sound = sound_b (turned_back a.1.1.1.0) in
    p.is ∙ ap (λ t. pick (t && sound) no_day (day p.input)) luck ∙ ap (λ s. pick (y.failed && sound) no_day (day s)) same ∙ sym q.is

-- and that is all that it leaves open: the day of any bytes meets it, and so does a failure where the book is sound.
pub whatever-bytes-came :
    (κs : Lfts 2) (a : Args feed_contracts.whole_day.signature κs) (e : AtExit feed_contracts.whole_day.ended κs) (s : List ℕ) →
    Bytes s → feed.whole_day.Reads.Learnt κs a (whole_day a.1.1.0 (turned_back a.1.1.1.0) s) e
    × (sound_b (turned_back a.1.1.1.0) ≡ true → feed.whole_day.Reads.Learnt κs a no_day e)
unfolding pick whole_day no_day
whatever-bytes-came κs a e s bytes = (record { input = s; bytes = bytes; is = refl }, λ sound. record { input = s; bytes = bytes; is = rw sound })

-- The same of an explained day.
pub of-feed-explained-day :
    (κs : Lfts 2) (a : Args feed_contracts.explained_day.signature κs) (x y : Res feed_contracts.explained_day.signature κs) (e : AtExit feed_contracts.explained_day.ended κs)
    (p : feed.explained_day.Reads.Learnt κs a x e) (q : feed.explained_day.Reads.Learnt κs a y e) →
    p.input ≡ q.input → x.failed ≡ y.failed → x ≡ y
of-feed-explained-day κs a x y e p q same luck =
    let day = explained_day (turned_back a.1.1.0) in
    let sound = sound_b (turned_back a.1.1.0) in
    p.is ∙ ap (λ t. pick (t && sound) no_day (day p.input)) luck ∙ ap (λ s. pick (y.failed && sound) no_day (day s)) same ∙ sym q.is

-- The book that a day starts from: where the words and the file's bytes are the same, so are the results.
pub of-feed-books-from-word :
    (κs : Lfts 2) (a : Args feed_contracts.books.from_word.signature κs) (x y : Res feed_contracts.books.from_word.signature κs) (e : AtExit feed_contracts.books.from_word.ended κs)
    (p : feed.books.from_word.Reads.Learnt κs a x e) (q : feed.books.from_word.Reads.Learnt κs a y e) →
    p.count ≡ q.count → p.name ≡ q.name → p.file ≡ q.file → x ≡ y
of-feed-books-from-word κs a x y e p q many word same =
    let named = p.named ∙ ap (λ n. names_file n a.1.1.0 p.name) many ∙ ap (names_file q.count a.1.1.0) word ∙ sym q.named in
    p.is ∙ ap (λ t. pick t (from_held (read_of p.file)) fresh_from) named ∙ ap (λ s. pick y.named (from_held (read_of s)) fresh_from) same ∙ sym q.is

-- Where the book after it goes: where there are as many words, and both failed or neither did.
pub of-feed-books-to-word :
    (κs : Lfts 2) (a : Args feed_contracts.books.to_word.signature κs) (x y : Res feed_contracts.books.to_word.signature κs) (e : AtExit feed_contracts.books.to_word.ended κs)
    (p : feed.books.to_word.Reads.Learnt κs a x e) (q : feed.books.to_word.Reads.Learnt κs a y e) →
    p.count ≡ q.count → x.failed ≡ y.failed → x ≡ y
of-feed-books-to-word κs a x y e p q many luck =
    let t = a.1.1.1.0 in
    let named = p.named ∙ ap (λ n. is_there n a.1.1.0) many ∙ sym q.named in
    p.is ∙ ap (λ n. pick n (went_to x.failed t) nowhere) named ∙ ap (λ f. pick y.named (went_to f t) nowhere) luck ∙ sym q.is
