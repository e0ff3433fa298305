-- `book::needs` meets its contract: 1, 15, or every account's need in the room.
use mathlib.Core.Path.{refl, sym, ap, subst, ◌∙◌}
use native.Mathlib.Omega.{arith}
use Rattle.sums.specs.Listed.{list_to}
use Rattle.rows.specs.declared.Rule.TheVariants.{New}
use Rattle.rows.specs.View.{need}
use Rattle.rows.specs.Facts.{Shaped, NeedsKept}
use Rattle.table.specs.Words.{turned_back}
use Rattle.book.specs.NeedsListed.{all_needs}
use Rattle.book.proofs.RowTests.{sound-ranged}
use Rattle.book.proofs.SoundTest.{sound→}
use Rattle.book.proofs.SeenTable.{seen-by, seen-within}
use Rattle.book.proofs.NeedsAnswers.{needs-by, needs-unsound, needs-no-room, needs-given}
use Rattle.book.proofs.needs.Goals as goal

pub returns-then-not-table_sound : goal.returns-then-not-table_sound
returns-then-not-table_sound c =
    let b = turned_back c.args.t in
    let whole = needs-by b c.args.room.now 1 (needs-unsound b c.args.room.now (sym c.table_sound.ensures ∙ c.if-not-table_sound.true)) refl refl in
    record { value = whole.0; room_after = whole.1 }

pub returns-then-room-t : goal.returns-then-room-t
returns-then-room-t c =
    let b = turned_back c.args.t in
    let holds = sym c.table_sound.ensures ∙ c.if-not-table_sound.false in
    let whole = needs-by b c.args.room.now 15 (needs-no-room b c.args.room.now holds (λ e. omega (arith, c.if-room-t.true))) refl refl in
    record { value = whole.0; room_after = whole.1 }

pub put_needs-requires : goal.put_needs-requires
put_needs-requires c =
    let t = c.args.t in
    let s = sound→ (turned_back t) (sym c.table_sound.ensures ∙ c.if-not-table_sound.false) in
    let same = sym (seen-by t New) in
    record {
      ranged = (seen-within t (sound-ranged (turned_back t) s), subst Shaped same s.shaped);
      needs_kept = (subst (λ v. NeedsKept v t.needs) same s.kept, omega (arith, c.if-room-t.false));
    }

pub returns : goal.returns
unfolding all_needs
returns c =
    let t = c.args.t in
    let b = turned_back t in
    let holds = sym c.table_sound.ensures ∙ c.if-not-table_sound.false in
    let all = c.put_needs.ensures ∙ ap (λ v. list_to (need v) t.count) (seen-by t New) in
    let whole = needs-by b c.args.room.now 0 (needs-given b c.args.room.now holds c.if-room-t.false) refl all in
    record { value = whole.0; room_after = whole.1 }
