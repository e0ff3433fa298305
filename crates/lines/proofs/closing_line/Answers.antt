-- `lines::closing_line` meets its contract.
use Rattle.text.proofs.Puts.{puts-at-start}
use Rattle.lines.proofs.closing_line.Goals as goal

pub returns : goal.returns
returns c =
    let whole = puts-at-start c.put_closing.ensures in
    record { value = whole.0; room_after = whole.1 }
