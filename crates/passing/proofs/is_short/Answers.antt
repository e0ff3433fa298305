-- `passing::is_short` meets its contract.
use mathlib.Core.Path.{ap, ◌∙◌}
use lib.Dec.{ltb}
use lib.ListN.{get_or}
use Rattle.rows.specs.Rows.{collateral}
use Rattle.passing.proofs.is_short.Goals as goal

pub collateral_of-requires : goal.collateral_of-requires
collateral_of-requires c = rw c.row_at-row.ensures c.requires

pub returns : goal.returns
returns c =
    let k = c in
    ap (λ n. ltb n (get_or k.args.needs.now 0 0)) (k.collateral_of.ensures ∙ ap collateral k.row_at-row.ensures)
