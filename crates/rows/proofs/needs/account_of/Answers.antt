-- `rows::needs::account_of` meets its contract.
use Rattle.rows.proofs.needs.account_of.Goals as goal

pub returns : goal.returns
returns c = cc
