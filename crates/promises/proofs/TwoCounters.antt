-- Two counters, one book (K14): two orders that are both carried out leave the same book but for modes.
use mathlib.Core.Bool.{true}
use mathlib.Core.List.{List, [], ◌∷◌}
use mathlib.Core.Path.{◌≡◌, refl, sym, ap, ◌∙◌}
use Prim.Native.Nat.{ℕ, ◌<◌}
use native.Mathlib.Omega.{arith}
use native.Mathlib.Decide.{dec_lt}
use lib.ListN.{length}
use lib.Seq.{ext_get_or}
use Rattle.rows.specs.declared.Book.{Book}
use Rattle.rows.specs.Rows.{no_row, place_of, row_at, number_at, view}
use Rattle.rows.specs.KeptNeeds.{needs_afresh}
use Rattle.book.specs.Sound.{sound_b}
use Rattle.book.specs.Asked.{standing_of}
use Rattle.book.specs.NeedsListed.{all_needs}
use Rattle.book.specs.Facts.{Sound}
use Rattle.book.proofs.SoundTest.{sound→, sound←}
use Rattle.dayfile.specs.declared.Record.{Record}
use Rattle.promises.specs.Sequences.{after_all}
use Rattle.promises.proofs.Quick.{all_sound}
use Rattle.promises.specs.Standings.{all_but_mode}
use Rattle.promises.specs.Orders.{TwoOrders, WithoutOpenings, AllCarriedOut, SameButModes}
use Rattle.promises.specs.Figures.{one_order, other_order, margin_first, allocated_first}
use Rattle.promises.proofs.Modes.{same-figures}
use Rattle.promises.proofs.OwnRecords.{as_many, codes-both, neighbours-swapped}
use Rattle.promises.proofs.OwnRows.{amended_all, row-after, Kept, kept-after, on_by, serial-after, needs-after-all}

-- two books that agree in all but their modes
by_parts : (c d : Book) → Kept c d → d.serial ≡ c.serial → d.rows ≡ c.rows → d.needs ≡ c.needs → SameButModes c d
by_parts c d k serial rows needs =
    λ j. record { count = k.count j; serial = serial j; rows = rows j; modes = d.modes; needs = needs j; next = k.next j; numbers = k.numbers j }

by-modes : (c d : Book) → sound_b c ≡ true → sound_b d ≡ true → SameButModes c d → (number : ℕ) → all_but_mode (standing_of d number) ≡ all_but_mode (standing_of c number)
by-modes c d s t same number = ap (λ x. all_but_mode (standing_of x number)) same ∙ same-figures c d.modes s (sym (ap sound_b same) ∙ t) number

-- "from one sound book take two orders of the same records, renumbered, without openings or retirings, in which each account's own records keep their
-- order and all are carried out both times."
module _ (b : Book) (sound : sound_b b ≡ true) (rs qs : List Record) (same : TwoOrders rs qs) (plain : WithoutOpenings rs)
    (one : AllCarriedOut b rs) (other : AllCarriedOut b qs) where
  abbrev c : Book
  c = after_all b rs

  abbrev d : Book
  d = after_all b qs

  plain' : WithoutOpenings qs
  plain' = codes-both (λ code. 3 < code) rs qs same plain

  sound-c : Sound c
  sound-c = all_sound b rs (sound→ b sound)

  sound-d : Sound d
  sound-d = all_sound b qs (sound→ b sound)

  to-c : Kept b c
  to-c = kept-after rs b plain one

  to-d : Kept b d
  to-d = kept-after qs b plain' other

  kept : Kept c d
  kept = record {
    count = to-d.count ∙ sym to-c.count;
    next = to-d.next ∙ sym to-c.next;
    numbers = to-d.numbers ∙ sym to-c.numbers;
  }

  same-serial : d.serial ≡ c.serial
  same-serial =
      serial-after qs b plain' other ∙ ap (on_by b.serial) (sym (as_many rs qs same)) ∙ sym (serial-after rs b plain one)

  row : (i : ℕ) → row_at d i ≡ row_at c i
  row i = by (dec_lt i b.count)
    where
      by : Dec (i < b.count) → row_at d i ≡ row_at c i
      by (yes l) = row-after qs b plain' other i l ∙ ap (amended_all (row_at b i)) (sym (same (number_at b i))) ∙ sym (row-after rs b plain one i l)
      by (no l) =
          sound-d.blank i (omega (arith, to-d.count)) ∙ sym (sound-c.blank i (omega (arith, to-c.count)))

  rows : d.rows ≡ c.rows
  rows = ext_get_or no_row d.rows c.rows (sound-d.table ∙ sym sound-c.table) (λ i l. row i)

  same_view : view d ≡ view c
  same_view = λ j. view (record { count = kept.count j; serial = 0; rows = rows j; modes = []; needs = []; next = 0; numbers = [] })

  same-kept-needs : d.needs ≡ c.needs
  same-kept-needs = by rs qs (as_many rs qs same) one other same_view
    where
      by : (xs ys : List Record) → length xs ≡ length ys → AllCarriedOut b xs → AllCarriedOut b ys → view (after_all b ys) ≡ view (after_all b xs)
          → (after_all b ys).needs ≡ (after_all b xs).needs
      by [] [] n h k v = refl
      by [] (y ∷ ys) n h k v = absurd (omega arith)
      by (x ∷ xs) [] n h k v = absurd (omega arith)
      by (x ∷ xs) (y ∷ ys) n h k v = needs-after-all y ys b k ∙ ap needs_afresh v ∙ sym (needs-after-all x xs b h)

  -- "They leave the same amounts, needs, serial and standings. K2's modes are excepted.": the whole book is the same but for its modes; ..
  pub the-same-book-but-for-modes : SameButModes c d
  the-same-book-but-for-modes = by_parts c d kept same-serial rows same-kept-needs

  -- .. so the serial, ..
  pub the-same-serial : d.serial ≡ c.serial
  the-same-serial = same-serial

  -- .. each account's row, by its number, with all its amounts, ..
  pub the-same-amounts : (number : ℕ) → row_at d (place_of d number) ≡ row_at c (place_of c number)
  the-same-amounts number = ap (λ x. row_at x (place_of x number)) the-same-book-but-for-modes

  -- .. the needs of all accounts in one list, ..
  pub the-same-needs : all_needs d ≡ all_needs c
  unfolding all_needs
  the-same-needs = ap all_needs the-same-book-but-for-modes

  -- .. and every account's standing, but for the mode that it shows.
  pub the-same-standings : (number : ℕ) → all_but_mode (standing_of d number) ≡ all_but_mode (standing_of c number)
  the-same-standings number = by-modes c d (sound← c sound-c) (sound← d sound-d) the-same-book-but-for-modes number

-- "Give an example where one order carries all out and the other gives 13." The refusals are in the list of figures (Claim); the records are two orders of the same ones, ..
pub the-example-is-two-orders : TwoOrders one_order other_order
the-example-is-two-orders = neighbours-swapped _ _ _ _ [] refl refl (λ e. omega arith)

-- .. and so are those of which both orders are carried out and a mode is on after one alone: the exception is needed.
pub the-example-of-modes-is-two-orders : TwoOrders margin_first allocated_first
the-example-of-modes-is-two-orders = neighbours-swapped _ _ _ _ [] refl refl (λ e. omega arith)
