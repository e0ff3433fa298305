-- `text::number::put_two` meets its contract.
use Rattle.text.proofs.Digits.{decimal-one, decimal-two}
use Rattle.text.proofs.number.put_two.Goals as goal

pub returns-then-n-lt10 : goal.returns-then-n-lt10
returns-then-n-lt10 c = rw (decimal-one _ c.if-n-lt10.true) c.put_digit.ensures

pub returns-else-n-lt10 : goal.returns-else-n-lt10
returns-else-n-lt10 c =
    let i = c in
    rw (decimal-two _ i.if-n-lt10.false i.requires.0) c.put_pair.ensures
