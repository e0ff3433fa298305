-- `book::sound::table_sound` meets its contract.
use Rattle.book.specs.Sound.{sound_b}
use Rattle.book.proofs.sound.table_sound.Goals as goal

pub returns : goal.returns
unfolding sound_b
returns c = c.table_kept.ensures
