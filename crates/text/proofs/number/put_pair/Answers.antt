-- `text::number::put_pair` meets its contract: one digit, then the other.
use Rattle.text.proofs.Puts.{and_then}
use Rattle.text.proofs.number.put_pair.Goals as goal

pub returns : goal.returns
returns c = and_then _ _ c.put_digit-p.ensures c.put_digit.ensures
