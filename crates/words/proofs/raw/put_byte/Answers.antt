use Rattle.text.proofs.Puts.{and_then}
use Rattle.words.proofs.raw.put_byte.Goals as goal

pub returns : goal.returns
returns c =
    let hi = c.hex_digit.ensures in
    let lo = c.hex_digit-2.ensures in
    rw (← hi, ← lo) (and_then _ _ c.put_text-p.ensures c.put_text.ensures)
