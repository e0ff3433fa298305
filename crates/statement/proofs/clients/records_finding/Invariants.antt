-- `statement::clients::records_finding` meets its contract: what is left of the clients and of the bytes gives what all of them give.
use Rattle.table.specs.Words.{turned_back}
use Rattle.statement.proofs.Turns.{Stands}
use Rattle.statement.proofs.clients.records_finding.Given as goal

abbrev pub invariant-loop-i : goal.invariant-loop-i
invariant-loop-i l = Stands (turned_back l.t) l.tm l.statement l.i l.index l.at
