-- `passing::free_at` meets its contract.
use mathlib.Core.Path.{ap, ◌∙◌}
use lib.ListN.{get_or}
use Rattle.rows.specs.View.{free_of}
use Rattle.rows.specs.Rows.{collateral, account_of}
use Rattle.rows.specs.DeemedUnder.{need_by}
use Rattle.passing.proofs.free_at.Goals as goal

pub free_of-requires : goal.free_of-requires
free_of-requires c = rw c.row_at-row.ensures c.requires.1

pub returns : goal.returns
returns c =
    let a = c.args in
    c.free_of.ensures ∙ ap (λ r. free_of (need_by (account_of r) (get_or a.needs.now a.i 0)) (collateral r)) c.row_at-row.ensures
