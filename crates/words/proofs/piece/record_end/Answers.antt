use Rattle.std.proofs.Common.{sym, ◌∙◌}
use Rattle.words.specs.Inner.{end_by, record_end}
use Rattle.words.proofs.piece.record_end.Goals as goal

pub returns-in-Whole : goal.returns-in-Whole
unfolding record_end end_by
returns-in-Whole c = rw (sym c.found_at.ensures.value ∙ c.in-Whole.is)

pub returns-in-End : goal.returns-in-End
unfolding record_end end_by
returns-in-End c = rw (sym c.found_at.ensures.value ∙ c.in-End.is)

pub returns-in-Cut : goal.returns-in-Cut
unfolding record_end end_by
returns-in-Cut c = rw (sym c.found_at.ensures.value ∙ c.in-Cut.is)
