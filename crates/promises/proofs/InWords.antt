-- Day files in words: each record has one line, a day file one text, and both come back as they were.
use mathlib.Core.List.{List}
use mathlib.Core.Path.{◌≡◌}
use Prim.Native.Nat.{ℕ}
use Rattle.numbers.specs.Bytes.{Bytes}
use Rattle.dayfile.specs.declared.Record.{Record}
use Rattle.dayfile.specs.Files.{WordsFit}
use Rattle.dayfile.specs.Records.{fault_of}
use Rattle.words.specs.declared.Line.TheVariants.{Says}
use Rattle.words.specs.Lines.{line_of}
use Rattle.words.specs.Saying.{line_says}
use Rattle.words.specs.Texts.{file, day_of, text_of}
use Rattle.words.proofs.Lines.{line-back}
use Rattle.words.proofs.OneForm.{line-once, lines-apart, text-once, texts-apart}
use Rattle.words.proofs.Files.{text-back}
use Rattle.wording.specs.Wording.{day_within}
use Rattle.wording.proofs.ReadBack.{text-taken}

-- A good record's line says that record, whatever serial is the running one.
pub a-record's-line-says-it : (running : ℕ) (r : Record) → fault_of r ≡ 0 → WordsFit r → line_says running (line_of running r) ≡ Says r
a-record's-line-says-it = line-back

-- A line in its one form is the line of what it says: each record has one written line ..
pub a-line-in-its-one-form : (running : ℕ) (l : List ℕ) (r : Record) → fault_of r ≡ 0 → WordsFit r → l ≡ line_of running r
    → (q : Record) → line_says running l ≡ Says q → line_of running q ≡ l
a-line-in-its-one-form = line-once

-- .. and no two good records have the same.
pub no-two-records-one-line : (running : ℕ) (r q : Record) → fault_of r ≡ 0 → WordsFit r → fault_of q ≡ 0 → WordsFit q → line_of running r ≡ line_of running q → r ≡ q
no-two-records-one-line = lines-apart

-- A whole day file in words reads back to the same bytes, whatever they are: unknown codes, marks that don't suit, amounts out of range, a cut end, any serials.
pub a-day-file-in-words-reads-back : (running : ℕ) (s : List ℕ) → Bytes s → day_of running (text_of running s) ≡ file s
a-day-file-in-words-reads-back = text-back

-- The same of the programs, which refuse a line of 16,454 bytes or more with 34: no line that `read` prints is too long for `write`.
pub what-read-prints-write-takes : (running : ℕ) (s : List ℕ) → Bytes s → day_within running (text_of running s) ≡ file s
what-read-prints-write-takes = text-taken

-- The other way for a text in its one form: the day file that it says has this text.
pub a-text_in-its-one-form : (running : ℕ) (t s : List ℕ) → Bytes s → t ≡ text_of running s → (z : List ℕ) → day_of running t ≡ file z → text_of running z ≡ t
a-text_in-its-one-form = text-once

-- No two day files have the same text.
pub no-two-files-one-text : (running : ℕ) (s z : List ℕ) → Bytes s → Bytes z → text_of running s ≡ text_of running z → s ≡ z
no-two-files-one-text = texts-apart
