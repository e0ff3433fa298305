-- `book::sound::good_row` meets its contract: a TM that the table has no place for may be read at any place, since the row fails either way (`row-slot`).
use mathlib.Core.Bool.{Bool}
use mathlib.Core.List.{[]}
use mathlib.Core.Path.{◌≡◌}
use lib.ListN.{get_or}
use borrow.Author.Tests.{lt-ltb, le-ltb}
use Rattle.sums.proofs.Choices.{pick_first, pick_second}
use Rattle.rows.specs.Inner.{Slot}
use Rattle.table.specs.Words.{row_in, book_from}
use Rattle.book.specs.Sound.{good_row, row_sound}
use Rattle.book.proofs.SoundInPlace.{row-in-place}
use Rattle.book.proofs.sound.good_row.Goals as goal

pub returns-then-i-n : goal.returns-then-i-n
unfolding good_row
returns-then-i-n c =
    let at_slot : (x : Bool) → let a = c.args in
    let m = a.marks.now in
    x ≡ good_row a.n a.i (row_in m a.w.now a.i) (row_in m a.w.now c.slot.result) → x ≡ row_sound (book_from a.n 0 m a.w.now [] [] 0 []) a.i =
    λ x. let a = c.args in
    let slot : Slot (get_or a.marks.now.tm a.i 0) c.slot.result = rw c.mark_at-own.ensures at c.slot.ensures in
    row-in-place a.n a.marks.now a.w.now a.i c.slot.result c.requires slot
    in
    let place = c in
    let marks = place in
    (at_slot _) (pick_first _ (lt-ltb _ _ place.if-i-n.true) (rw (
      place.good_place.ensures,
      c.no_amounts.ensures,
      c.in_range.ensures,
      marks.mark_at-its.ensures,
      marks.mark_at-own.ensures,
    )))

pub returns-else-i-n : goal.returns-else-i-n
unfolding good_row
returns-else-i-n c =
    let at_slot : (x : Bool) → let a = c.args in
    let m = a.marks.now in
    x ≡ good_row a.n a.i (row_in m a.w.now a.i) (row_in m a.w.now c.slot.result) → x ≡ row_sound (book_from a.n 0 m a.w.now [] [] 0 []) a.i =
    λ x. let a = c.args in
    let slot : Slot (get_or a.marks.now.tm a.i 0) c.slot.result = rw c.mark_at-own.ensures at c.slot.ensures in
    row-in-place a.n a.marks.now a.w.now a.i c.slot.result c.requires slot
    in
    let else = c in
    let marks = else in
    (at_slot _) (pick_second _ (le-ltb _ _ else.if-i-n.false) (rw (c.no_amounts-else-i-n.ensures, marks.mark_at-own.ensures)))
