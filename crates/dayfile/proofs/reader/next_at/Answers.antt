-- `dayfile::reader::next_at` meets its contract: what is read at the place, and the place after it, which `reader::next` puts.
use Rattle.dayfile.proofs.reader.next_at.Goals as goal

pub returns : goal.returns
returns c = cc
