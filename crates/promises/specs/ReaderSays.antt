-- The promises of the reader's three calls: their clauses, as crates/dayfile/src/reader.rt has them. x is what comes back, and `after` the reader then.
use Rattle.std.specs.Prelude.{◌≡◌}
use Rattle.dayfile.specs.Reading.{place_after}
use Rattle.dayfile.specs.Reader.{start_of, read_by, moved_to}
use Rattle.dayfile.specs.contracts as dayfile_contracts
use Rattle.promises.specs.OneResult.{Promise}

abbrev pub new_says : Promise dayfile_contracts.reader.new.ended
new_says κs (piece, _) x e = x ≡ start_of piece

abbrev pub peek_says : Promise dayfile_contracts.reader.peek.ended
peek_says κs (r, _) x e = x ≡ read_by r

abbrev pub next_answer : Promise dayfile_contracts.reader.next.ended
next_answer κs (r, _) x e = x ≡ read_by r.now

abbrev pub next_reader : Promise dayfile_contracts.reader.next.ended
next_reader κs (r, _) x (after, _) = after.now ≡ moved_to r.now (place_after x r.now.place)

abbrev pub next_says : Promise dayfile_contracts.reader.next.ended
next_says κs a x e = next_answer κs a x e × next_reader κs a x e
