-- `dayfile::reader::place_after` meets its contract: the place stays at the end and at a cut, and is the one behind a record.
use Rattle.dayfile.proofs.reader.place_after.Goals as goal

pub returns-in-Good : goal.returns-in-Good
returns-in-Good c = rw c.in-Good.is

pub returns-in-Bad : goal.returns-in-Bad
returns-in-Bad c = simp c.in-Bad.is
