use Rattle.std.proofs.Common.{sym, ◌∙◌}
use Rattle.table.specs.Words.{turned_back}
use Rattle.book.proofs.SoundTest.{sound→}
use Rattle.feed.proofs.Feeding.{as-explained, unsound-explained}
use Rattle.feed.proofs.explained_day.Goals as goal

pub returns-then-not-is_sound : goal.returns-then-not-is_sound
returns-then-not-is_sound c = unsound-explained (turned_back c.args.t) _ (sym c.is_sound.ensures ∙ c.if-not-is_sound.true) c.unsound.ensures

pub in_turns-requires : goal.in_turns-requires
in_turns-requires c = sound→ _ (sym c.is_sound.ensures ∙ c.if-not-is_sound.false)

pub returns : goal.returns
returns c = as-explained _ _ c.in_turns.ensures
