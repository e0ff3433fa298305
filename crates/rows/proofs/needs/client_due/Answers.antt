-- `rows::needs::client_due` meets its contract.
use Rattle.rows.proofs.needs.client_due.Goals as goal

pub returns : goal.returns
returns c = cc
