-- A book that lasts the night: two days one after the other, the second over the book after the first, are the day of both files joined. The first must have been read to its end (`end`: neither cut
-- nor past the million), and the two together must not reach the million with more to follow (`long`). The book
-- is by the new rule, as that of a table is.
use mathlib.Core.Bool.{Bool, true, false}
use mathlib.Core.List.{List, ◌++◌}
use mathlib.Core.Path.{◌≡◌, refl, sym, ap, ◌∙◌}
use Prim.Native.Nat.{ℕ, ◌+◌}
use native.Mathlib.Omega.{arith}
use lib.ListN.{length, length-append}
use Rattle.sums.specs.Choice.{pick}
use Rattle.rows.specs.declared.Book.{Book}
use Rattle.table.specs.Words.{turned_back}
use Rattle.table.proofs.Turning.{over-and-back}
use Rattle.book.specs.Sound.{sound_b}
use Rattle.book.specs.Facts.{Sound}
use Rattle.book.proofs.SoundTest.{sound→, sound←}
use Rattle.records.specs.declared.Closing.TheVariants.{End, Long, Unsound}
use Rattle.records.specs.Runs.{Ran, ran_of, on_from}
use Rattle.records.specs.LineNumbers.{answers_of}
use Rattle.records.proofs.NumbersPut.{ran-unsound}
use Rattle.records.proofs.SoundRun.{ran-keeps}
use Rattle.records.proofs.Pieces.{two-pieces}
use Rattle.lines.specs.Lines.{lines_of}
use Rattle.lines.specs.Texts.{text_of}
use Rattle.feed.specs.declared.Day.{Day}
use Rattle.feed.specs.Fed.{printed_of, day_of, whole_day}
use Rattle.feed.proofs.PieceLines.{lines-of-two}

end-not-unsound : (r : Ran) → r.closing ≡ Unsound → r.closing ≡ End → ⊥
end-not-unsound r u e = let z : ◌≡◌ {A = ℕ} 0 1 = cc in omega arith

module _ (printing : Bool) (b : Book) (s x : List ℕ) (e : (whole_day printing b s).closing ≡ End) (w : (whole_day printing b (s ++ x)).closing ≡ Long → ⊥) where
  abbrev ran : Ran
  ran = ran_of b s 1_000_000

  -- the first day, and the second over the book after it
  abbrev first : Day
  first = whole_day printing b s

  abbrev second : Day
  second = whole_day printing (turned_back first.table) x

  ended : ran.closing ≡ End
  unfolding whole_day
  ended = e

  short : (ran_of b (s ++ x) 1_000_000).closing ≡ Long → ⊥
  unfolding whole_day
  short = w

  sound : Sound b
  sound = by (sound_b b) refl
    where
      by : (t : Bool) → sound_b b ≡ t → Sound b
      by true q = sound→ b q
      by false q = absurd (end-not-unsound ran (ap (λ (r : Ran). r.closing) (sym (ran-unsound b s 1_000_000 q))) ended)

  same-book : turned_back first.table ≡ ran.book
  unfolding whole_day
  same-book = over-and-back ran.book (ran-keeps b s 1_000_000 sound).table

  -- The lines of the first day and then those of the second are the joined file's.
  pub the-lines-of-two-days : lines_of (answers_of (s ++ x) 1_000_000 b 0) ≡ lines_of (answers_of s 1_000_000 b 0) ++ lines_of (answers_of x 1_000_000 (turned_back first.table) 0)
  the-lines-of-two-days =
      lines-of-two b s x 1_000_000 sound ended short
      ∙ ap (λ c. lines_of (answers_of s 1_000_000 b 0) ++ lines_of (answers_of x 1_000_000 c 0)) (sym same-book)

  -- how many bytes were printed, added up
  both-printed : printed_of printing b (s ++ x) ≡ printed_of printing b s + printed_of printing (turned_back first.table) x
  unfolding printed_of text_of pick
  both-printed = by printing
    where
      second-sound : sound_b (turned_back first.table) ≡ true
      second-sound = ap sound_b same-book ∙ sound← ran.book (ran-keeps b s 1_000_000 sound)

      by : (p : Bool) → printed_of p b (s ++ x) ≡ printed_of p b s + printed_of p (turned_back first.table) x
      by true = rw (sound← b sound, second-sound) (ap length the-lines-of-two-days ∙ length-append (lines_of (answers_of s 1_000_000 b 0)) _)
      by false = refl

  -- The book after both, the closing word and the counts, those of the bytes printed too, added up, are those of the joined file.
  pub two-days-are-one-day :
      whole_day printing b (s ++ x) ≡
      record { table = second.table; closing = second.closing; read = first.read + second.read; done = first.done + second.done; printed = first.printed + second.printed; failed = false }
  unfolding whole_day
  two-days-are-one-day =
      ap (day_of (printed_of printing b (s ++ x))) (two-pieces b s x 1_000_000 ended short)
      ∙ ap (λ c. day_of (printed_of printing b (s ++ x)) (on_from ran.place ran.read ran.done (ran_of c x 1_000_000))) (sym same-book)
      ∙ ap (λ n. day_of n (on_from ran.place ran.read ran.done (ran_of (turned_back first.table) x 1_000_000))) both-printed
