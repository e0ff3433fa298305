-- Numbers that are places rise, all below the number of rows: so a book that has them, and the count as its next number, is sound where the rest of it is.
use mathlib.Core.Path.{◌≡◌, ◌∙◌}
use mathlib.Core.Bool.{true}
use mathlib.Core.List.{List}
use Prim.Native.Nat.{ℕ, ◌≤◌, ◌<◌}
use native.Mathlib.Omega.{arith}
use native.Mathlib.Decide.{dec_lt}
use lib.Dec.{ltb}
use lib.ListN.{get_or, get_or-eq_default}
use borrow.Author.Tests.{lt-ltb, le-ltb}
use Rattle.sums.specs.Choice.{pick}
use Rattle.sums.proofs.Choices.{pick_yes, pick_no}
use Rattle.sums.proofs.Lists.{length-list_to, at-list_to}
use Rattle.rows.specs.declared.Book.{Book}
use Rattle.book.specs.Placed.{place_numbers}
use Rattle.book.specs.Sound.{numbers_sound}
use Rattle.book.specs.Facts.{Numbered, Sound}
use Rattle.book.proofs.NumbersTest.{numbers←}

module _ (count : ℕ) (some : 0 < count) (most : count ≤ 256) where
  abbrev place : ℕ → ℕ
  place i = pick (ltb i count) i 0

  held : (i : ℕ) → i < count → get_or (place_numbers count) i 0 ≡ i
  held i l = at-list_to place 256 i 0 (omega arith) ∙ pick_yes (ltb i count) i 0 (lt-ltb i count l)

  beyond : (i : ℕ) → count ≤ i → Dec (i < 256) → get_or (place_numbers count) i 0 ≡ 0
  beyond i h (yes l) = at-list_to place 256 i 0 l ∙ pick_no (ltb i count) i 0 (le-ltb i count h)
  beyond i h (no l) = get_or-eq_default (place_numbers count) 0 (omega (arith, length-list_to place 256))

  pub place-numbered : Numbered count (place_numbers count) count
  place-numbered = record {
    wide = length-list_to place 256;
    top = held 0 some;
    rises = λ i j h l. omega (arith, held i (omega arith), held j l);
    below = λ i l. omega (arith, held i l);
    last = omega arith;
    beyond = λ i h. beyond i h (dec_lt i 256);
  }

  pub places-sound : numbers_sound count count (place_numbers count) ≡ true
  places-sound = numbers← count count (place_numbers count) place-numbered

-- the book with other numbers
abbrev pub renumbered : Book → ℕ → List ℕ → Book
renumbered b next numbers = record { count = b.count; serial = b.serial; rows = b.rows; modes = b.modes; needs = b.needs; next = next; numbers = numbers }

-- soundness asks nothing of numbers but that they rise below the next
pub renumbered-sound : (b : Book) (next : ℕ) (numbers : List ℕ) → Numbered b.count numbers next → Sound b → Sound (renumbered b next numbers)
renumbered-sound b next numbers n s = record {
  table = s.table;
  most = s.most;
  top-live = s.top-live;
  blank = s.blank;
  shaped = s.shaped;
  no-tm = s.no-tm;
  tm-live = s.tm-live;
  retired = s.retired;
  ranges = s.ranges;
  numbered = n;
  modes = s.modes;
  kept = s.kept;
}

pub by-places-sound : (b : Book) → Sound b → Sound (renumbered b b.count (place_numbers b.count))
by-places-sound b s = renumbered-sound b b.count (place_numbers b.count) (place-numbered b.count s.shaped.some s.most) s
