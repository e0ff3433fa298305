-- `book::is_sound` meets its contract.
use Rattle.book.proofs.is_sound.Goals as goal

pub returns : goal.returns
returns c = c.table_sound.ensures
