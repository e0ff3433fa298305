-- `dayfile::records::mark_of` meets its contract.
use mathlib.Core.Path.{refl}
use Rattle.sums.proofs.Choices.{pick_first, pick_second}
use Rattle.dayfile.proofs.faults.mark_of.Goals as goal

pub returns-then-code : goal.returns-then-code
returns-then-code c = pick_first _ c.if-code.true refl

pub returns-then-code-2 : goal.returns-then-code-2
returns-then-code-2 c = pick_second _ c.if-code.false (pick_first _ c.if-code-2.true refl)

pub returns-else-code-2 : goal.returns-else-code-2
returns-else-code-2 c = pick_second _ c.if-code.false (pick_second _ c.if-code-2.false refl)
