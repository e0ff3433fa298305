-- `lent::put_back` meets its contract.
use mathlib.Core.Path.{refl, sym, ◌∙◌}
use Rattle.bookfile.proofs.Wrote.{fitting-room}
use Rattle.lent.proofs.put_back.Goals as goal

pub returns : goal.returns
returns c =
    let s = c in
    c.write.ensures.room_after ∙ sym (fitting-room s.args.t s.args.bytes.now _ s.requires refl).1
