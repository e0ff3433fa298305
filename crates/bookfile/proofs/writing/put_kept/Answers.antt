-- `bookfile::writing::put_kept` meets its contract.
use mathlib.Core.Path.{◌∙◌}
use lib.ListN.{length-set}
use Rattle.numbers.specs.Bytes.{bytes_of}
use Rattle.bookfile.proofs.Parts.{yes-byte, put_one}
use Rattle.bookfile.proofs.writing.put_kept.Goals as goal

pub shape_of-room : goal.shape_of-room
shape_of-room c = c.put8.auto.room ∙ simp length-set

pub returns : goal.returns
returns c =
    let c1 = c in
    let a = c1.args in
    put_one a.room.now _ (bytes_of 8 a.need) a.place (c1.from.ensures ∙ yes-byte _) c.put8.ensures
