use Rattle.std.proofs.Common.{sym, le-ltb, lt-ltb}
use Rattle.sums.proofs.Choices.{pick_yes, pick_no}
use Rattle.words.specs.Hex.{hex_digit}
use Rattle.words.proofs.raw.hex_digit.Goals as goal

pub returns-then-d-lt10 : goal.returns-then-d-lt10
unfolding hex_digit
returns-then-d-lt10 c = sym (pick_yes _ _ _ (lt-ltb _ 10 c.if-d-lt10.true))

pub returns-else-d-lt10 : goal.returns-else-d-lt10
unfolding hex_digit
returns-else-d-lt10 c = sym (pick_no _ _ _ (le-ltb _ 10 c.if-d-lt10.false))
