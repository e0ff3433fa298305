use Rattle.words.proofs.Serials.{moved-few, moved_on, moved-not}
use Rattle.words.proofs.serial.moved.Goals as goal

pub returns-then-bytes-lt4 : goal.returns-then-bytes-lt4
returns-then-bytes-lt4 c = moved-few _ _ c.if-bytes-lt4.true

pub returns-then-number2-running : goal.returns-then-number2-running
returns-then-number2-running c =
    let n = c in
    moved_on _ _ _ n.number2.ensures n.if-bytes-lt4.false c.if-number2-running.true _ c.wrapping_add_u16.ensures.value

pub returns : goal.returns
returns c = moved-not _ _ _ c.number2.ensures c.if-number2-running.false
