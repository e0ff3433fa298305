use Rattle.std.proofs.Common.{◌∙◌}
use Rattle.streams.proofs.SameBytes.{one_by_one}
use Rattle.streams.proofs.words.is_same.Goals as goal

pub returns : goal.returns
returns c = c.eq.ensures ∙ one_by_one _ _
