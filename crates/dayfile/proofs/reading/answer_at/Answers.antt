-- `dayfile::reading::answer_at` meets its contract.
use mathlib.Core.Path.{sym, ◌∙◌}
use Rattle.dayfile.proofs.Looking.{read-end, read-cut, read-good, read-bad}
use Rattle.dayfile.proofs.reading.answer_at.Goals as goal

pub returns-then-fault-eq0 : goal.returns-then-fault-eq0
returns-then-fault-eq0 c = read-good _ _ _ _ (sym c.found_at.ensures.value ∙ c.in-Whole.is) _ c.fault_of-fault.ensures c.if-fault-eq0.true

pub returns-in-End : goal.returns-in-End
returns-in-End c = read-end _ _ (sym c.found_at.ensures.value ∙ c.in-End.is)

pub returns-in-Cut : goal.returns-in-Cut
returns-in-Cut c = read-cut _ _ (sym c.found_at.ensures.value ∙ c.in-Cut.is)

pub returns-else-fault-eq0 : goal.returns-else-fault-eq0
returns-else-fault-eq0 c = read-bad _ _ _ _ (sym c.found_at.ensures.value ∙ c.in-Whole.is) _ c.fault_of-fault.ensures c.if-fault-eq0.false
