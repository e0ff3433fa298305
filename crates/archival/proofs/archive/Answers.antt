-- `archival::archive` meets its contract: 1 where the test of a sound book fails, 23 where the room is too short, and otherwise the room is filled before the gaps are closed.
use mathlib.Core.Path.{sym, ap, ◌∙◌}
use native.Mathlib.Omega.{arith}
use borrow.Author.Tests.{not-true, not-false}
use Rattle.table.specs.Words.{turned_back}
use Rattle.table.proofs.Gathered.{row-in}
use Rattle.book.proofs.SoundTest.{sound→}
use Rattle.archiving.proofs.Entries.{archive-length}
use Rattle.archival.proofs.Closing.{tm-low}
use Rattle.archival.proofs.Answers.{not_sound, too_short, all_moved}
use Rattle.archival.proofs.archive.Goals as goal

pub returns-then-not-is_sound : goal.returns-then-not-is_sound
returns-then-not-is_sound c =
    let a = c.args in
    let h = not_sound (turned_back a.t) a.room.now (sym c.is_sound.ensures ∙ not-true _ c.if-not-is_sound.true-raw) in
    record { value = c.refused.ensures ∙ h.0; room_after = h.1 }

pub retired-moved-requires : goal.retired-moved-requires
retired-moved-requires c = let s = sound→ _ (sym c.is_sound.ensures ∙ not-false _ c.if-not-is_sound.false-raw) in s.most

pub returns-then-room-moved : goal.returns-then-room-moved
returns-then-room-moved c =
    let a = c.args in
    let sound = sym c.is_sound.ensures ∙ not-false _ c.if-not-is_sound.false-raw in
    let h = too_short (turned_back a.t) a.room.now sound (omega (arith, c.retired-moved.ensures, c.if-room-moved.true)) in
    record { value = c.refused-then-room-moved.ensures ∙ h.0; room_after = h.1 }

pub put_archived-requires : goal.put_archived-requires
put_archived-requires c =
    let t = c.args.t in
    let s = sound→ _ (sym c.is_sound.ensures ∙ not-false _ c.if-not-is_sound.false-raw) in (
      s.most,
      λ i m. omega (arith, tm-low (turned_back t) s i m, ap (λ r. r.tm) (row-in t.marks t.amounts i (omega (arith, s.most))), s.most),
      omega (arith, archive-length (turned_back t), c.retired-moved.ensures, c.if-room-moved.false),
    )

pub without_retired-table-requires : goal.without_retired-table-requires
without_retired-table-requires c = sound→ _ (sym c.is_sound.ensures ∙ not-false _ c.if-not-is_sound.false-raw)

pub returns : goal.returns
returns c =
    let a = c.args in
    let sound = sym c.is_sound.ensures ∙ not-false _ c.if-not-is_sound.false-raw in
    let h = all_moved (turned_back a.t) a.room.now sound (omega (arith, c.retired-moved.ensures, c.if-room-moved.false)) in
    record { value = rw (c.retired-moved.ensures, c.without_retired-table.ensures) h.0; room_after = c.put_archived.ensures ∙ h.1 }
