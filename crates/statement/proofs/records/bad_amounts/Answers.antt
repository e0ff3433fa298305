-- `statement::records::bad_amounts` meets its contract.
use Rattle.statement.specs.Forms.{bad_amounts}
use Rattle.statement.proofs.records.bad_amounts.Goals as goal

pub returns : goal.returns
unfolding bad_amounts
returns c = cc
