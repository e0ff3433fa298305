-- `statement::clients::is_live_client` meets its contract.
use Rattle.statement.proofs.Turns.{client-in}
use Rattle.statement.proofs.clients.is_live_client.Goals as goal

pub returns : goal.returns
returns c = client-in c.args.t.now c.args.tm c.args.i c.requires
