use Rattle.std.proofs.Common.{refl, arith}
use Rattle.sums.proofs.Choices.{pick_first, pick_second}
use Rattle.words.proofs.say.mark_of.Goals as goal

pub returns-then-code : goal.returns-then-code
returns-then-code c = record { value = pick_first _ c.if-code.true refl; upper_bound = omega arith }

pub returns-then-code-2 : goal.returns-then-code-2
returns-then-code-2 c = record { value = pick_second _ c.if-code.false (pick_first _ c.if-code-2.true refl); upper_bound = omega arith }

pub returns-else-code-2 : goal.returns-else-code-2
returns-else-code-2 c = record { value = pick_second _ c.if-code.false (pick_second _ c.if-code-2.false refl); upper_bound = omega arith }
