-- `rules::kinds::less_kinds` meets its contract.
use Rattle.rules.proofs.kinds.less_kinds.Goals as goal

pub returns : goal.returns
returns c = cc
