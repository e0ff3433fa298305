use Rattle.std.proofs.Common.{refl, le-leb}
use Rattle.std.proofs.lemmas.Bool.{lt-leb}
use Rattle.sums.specs.Choice.{pick}
use Rattle.steps.proofs.following.put_own.Goals as goal

pub returns-then-l-i-le1 : goal.returns-then-l-i-le1
unfolding pick
returns-then-l-i-le1 c = rw (le-leb _ 1 c.if-l-i-le1.true, c.mode_after.ensures, c.mode_of.ensures) refl

pub returns-else-l-i-le1 : goal.returns-else-l-i-le1
unfolding pick
returns-else-l-i-le1 c = rw (lt-leb _ 1 c.if-l-i-le1.false) refl
