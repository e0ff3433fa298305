-- `bookfile::writing::put_marks` meets its contract.
use mathlib.Core.Path.{◌∙◌}
use lib.ListN.{length-set}
use Rattle.numbers.specs.Bytes.{bytes_of}
use Rattle.bookfile.proofs.Parts.{yes-byte, put_two}
use Rattle.bookfile.proofs.writing.put_marks.Goals as goal

pub shape_of-room : goal.shape_of-room
shape_of-room c = c.put2.auto.room ∙ simp length-set

pub returns : goal.returns
returns c =
    let c1 = c in
    let a = c1.args in
    put_two a.room.now _ (bytes_of 2 a.tm) a.place a.sort (c1.from.ensures ∙ yes-byte _) c.put2.ensures
