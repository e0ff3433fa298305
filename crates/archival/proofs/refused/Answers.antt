-- `archival::refused` meets its contract.
use mathlib.Core.Path.{ap}
use Rattle.archival.proofs.refused.Goals as goal

pub returns : goal.returns
returns c = ap (λ t. record { refusal = c.args.refusal; moved = 0; table = t }) c.same-table.ensures
