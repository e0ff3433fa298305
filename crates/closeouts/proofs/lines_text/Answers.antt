use Rattle.std.proofs.Common.{length, ap, ◌∙◌}
use borrow.Author.Rules.{rules}
use Rattle.sums.specs.Room.{at_start}
use Rattle.table.specs.Words.{turned_back}
use Rattle.closeouts.proofs.LinesText.{refused-here, paid-here}
use Rattle.closeouts.proofs.lines_text.Goals as goal

pub returns-then-is_sound-held-clause-value : goal.returns-then-is_sound-held-clause-value
returns-then-is_sound-held-clause-value c =
    let l = c.args.said.now in
    let e = refused-here (turned_back c.args.t) l.numbers l.list l.count _ (search rules) c.accounts-n.ensures (search rules) c.is_sound.ensures c.all_held-held.ensures 0 _ _ _ c.if-is_sound-held.true in
    c.close_out_text.ensures.value ∙ ap length e

pub returns-then-is_sound-held-clause-room_after : goal.returns-then-is_sound-held-clause-room_after
returns-then-is_sound-held-clause-room_after c =
    let l = c.args.said.now in
    let e = refused-here (turned_back c.args.t) l.numbers l.list l.count _ (search rules) c.accounts-n.ensures (search rules) c.is_sound.ensures c.all_held-held.ensures 0 _ _ _ c.if-is_sound-held.true in
    c.close_out_text.ensures.room_after ∙ ap (λ t. at_start t c.args.room.now) e

pub returns-clause-value : goal.returns-clause-value
returns-clause-value c =
    let l = c.args.said.now in
    let e = paid-here (turned_back c.args.t) l.numbers l.list l.count _ (search rules) c.accounts-n.ensures (search rules) c.is_sound.ensures c.all_held-held.ensures _ c.if-is_sound-held.false c.row_losses-losses.ensures in
    c.close_out_text-2.ensures.value ∙ ap length e

pub returns-clause-room_after : goal.returns-clause-room_after
returns-clause-room_after c =
    let l = c.args.said.now in
    let e = paid-here (turned_back c.args.t) l.numbers l.list l.count _ (search rules) c.accounts-n.ensures (search rules) c.is_sound.ensures c.all_held-held.ensures _ c.if-is_sound-held.false c.row_losses-losses.ensures in
    c.close_out_text-2.ensures.room_after ∙ ap (λ t. at_start t c.args.room.now) e
