-- K11, room for new accounts: document 02's sentences as theorems. What the call gives, and the archive after it: `archival::archive`'s promise.
use mathlib.Core.Bool.{true}
use mathlib.Core.List.{List, [], ◌∷◌}
use mathlib.Core.Path.{◌≡◌}
use Prim.Native.Nat.{ℕ, ◌+◌, ◌*◌, ◌<◌}
use lib.ListN.{length, get_or}
use Rattle.rows.specs.declared.Book.{Book}
use Rattle.rows.specs.Rows.{row_at, number_at, place_of, is_live}
use Rattle.book.specs.Sound.{sound_b}
use Rattle.book.specs.Facts.{Sound}
use Rattle.book.specs.Asked.{standing_of}
use Rattle.book.proofs.SoundTest.{sound→, sound←}
use Rattle.gaps.specs.Gaps.{place_after, with_tm, archived}
use Rattle.archiving.specs.Archiving.{is_retired, retired_of, archived_row, archive_of}
use Rattle.archiving.proofs.Entries.{archive-length, entry_at}
use Rattle.archival.proofs.InOrder.{archive-rises}
use Rattle.dayfile.specs.declared.Record.{Record}
use Rattle.desk.specs.Steps.{step_of}
use Rattle.records.specs.Runs.{ran_of}
use Rattle.records.specs.LineNumbers.{answers_of}
use Rattle.records.proofs.NumbersPut.{ran-sound}
use Rattle.records.proofs.SoundRun.{step-sound}
use Rattle.thinned.specs.Given.{Event, carry, archive, numbers_given, RisingFrom}
use Rattle.thinned.proofs.Archived.{archived-thinned, archived-sound}
use Rattle.thinned.proofs.NeverTwice.{never-twice}
use Rattle.promises.specs.Sequences.{after_all}
use Rattle.promises.specs.Archivings.{ButForArchived, AlikeButForArchived, answers_to, NoneIsNine, events_after}
use Rattle.promises.proofs.ArchivedRuns.{but-for, list-alike, piece-alike}

-- At a sound book, whose retired rows are moved to the archive:
module _ (b : Book) (s : sound_b b ≡ true) where
  -- the book after it is sound;
  pub a-sound-book-stays-sound : sound_b (archived b) ≡ true
  a-sound-book-stays-sound = sound← (archived b) (archived-sound b (sound→ b s))

  but-for-archived : ButForArchived b (archived b)
  but-for-archived = let h = sound→ b s in but-for h (archived-sound b h) (archived-thinned b h)

  -- "Every standing .. after it is the one before it": for every number, with its need, free, mode and, of account 0, the shortfall. So a number in the archive gives 7, as it
  -- did while its row was there, retired;
  pub every-standing-is-the-one-before-it : (n : ℕ) → standing_of (archived b) n ≡ standing_of b n
  every-standing-is-the-one-before-it = but-for-archived.standings

  -- each account held keeps its sort and all its amounts; its TM is the one that it was, told by the place where its number now stands.
  pub every-account-held-keeps-its-amounts : (n : ℕ) → is_live b (place_of b n) ≡ true
      → row_at (archived b) (place_of (archived b) n) ≡ with_tm (row_at b (place_of b n)) (place_of (archived b) (number_at b (row_at b (place_of b n)).tm))
  every-account-held-keeps-its-amounts = but-for-archived.accounts

  -- "and every record's answer after it is the one before it, refusal 9 excepted": of any list of records, up to the first that is refused with 9 without the
  -- archiving; and the books after them are each other's but for the archived rows.
  pub every-answer-is-the-one-before-it : (rs : List Record) → NoneIsNine (answers_to b rs)
      → (answers_to (archived b) rs ≡ answers_to b rs) × ButForArchived (after_all b rs) (after_all (archived b) rs)
  every-answer-is-the-one-before-it = let h = sound→ b s in list-alike h (archived-sound b h) (archived-thinned b h)

  -- The same of any day file, byte by byte: its records' answers, where and why it ends, both counts, and the books after it.
  pub every-day-file-is-answered-alike : (piece : List ℕ) (most : ℕ) → NoneIsNine (answers_of piece most b 0)
      → (answers_of piece most (archived b) 0 ≡ answers_of piece most b 0) × AlikeButForArchived (ran_of b piece most) (ran_of (archived b) piece most)
  every-day-file-is-answered-alike piece most none =
      let h = sound→ b s in
      let alike = piece-alike piece most b (archived b) h (archived-sound b h) (archived-thinned b h) 0 0 0 none in
      (alike.0, rw (← (ran-sound b piece most s), ← (ran-sound (archived b) piece most a-sound-book-stays-sound)) alike.1)

  -- "moves all retired rows, in rising number": the archive's list has three numbers for each retired row, ..
  pub three-numbers-for-each-retired-row : length (archive_of b) ≡ 3 * retired_of b
  three-numbers-for-each-retired-row = archive-length b

  -- .. "its own, its opening code, its TM's or 0", behind those of the retired rows before it, ..
  pub each-retired-row-has-its-entry : (i : ℕ) → i < b.count → is_retired b i ≡ true → (k : ℕ) → k < 3
      → get_or (archive_of b) (3 * place_after (is_retired b) i + k) 0 ≡ get_or (archived_row b i) k 0
  each-retired-row-has-its-entry = entry_at b

  -- .. and the numbers rise.
  pub the-archive-rises-by-number : (j k : ℕ) → j < k → k < retired_of b → get_or (archive_of b) (3 * j) 0 < get_or (archive_of b) (3 * k) 0
  the-archive-rises-by-number = archive-rises b (sound→ b s)

-- "Numbers .. go up to 65,535 and are never given twice": over any records and archivings, from any book, each number given is above every one before it.
pub no-number-is-given-twice : (b : Book) (es : List Event) → RisingFrom b.next (numbers_given b es)
no-number-is-given-twice = never-twice

-- Demand 3, with archivings among the records: from a sound book, and so from a fresh one, every sequence of both leaves a sound book.
pub every-sequence-with-archivings-leaves-a-sound-book : (b : Book) → sound_b b ≡ true → (es : List Event) → sound_b (events_after b es) ≡ true
unfolding events_after
every-sequence-with-archivings-leaves-a-sound-book b s es = sound← (events_after b es) (on b es (sound→ b s))
  where
    on : (b : Book) (es : List Event) → Sound b → Sound (events_after b es)
    on b [] h = h
    on b (carry r ∷ es) h = on (step_of b r).book es (step-sound b r h)
    on b (archive ∷ es) h = on (archived b) es (archived-sound b h)
