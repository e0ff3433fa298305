-- `table::needs::account_as` meets its contract.
use mathlib.Core.Bool.{true}
use mathlib.Core.Path.{ap, ◌∙◌}
use native.Mathlib.Omega.{arith}
use Rattle.rows.specs.Inner.{account_as}
use Rattle.rows.proofs.Counted.{collateral-most}
use Rattle.table.proofs.needs.account_as.Goals as goal

pub in_tenths-requires : goal.in_tenths-requires
in_tenths-requires c =
    let start = c in
    let h = start.requires.1 in
    rw c.account_at-a.ensures (omega (arith, collateral-most start.args.rule _ h))

pub returns-then-tenths : goal.returns-then-tenths
returns-then-tenths c = rw c.if-tenths.true (c.in_tenths.ensures ∙ ap (account_as true) c.account_at-a.ensures)

pub returns-else-tenths : goal.returns-else-tenths
returns-else-tenths c = rw c.if-tenths.false c.account_at-a.ensures
