-- `statement::records::size_at` meets its contract.
use Rattle.statement.proofs.Reading.{size-at}
use Rattle.statement.proofs.records.size_at.Goals as goal

pub returns : goal.returns
returns c = let a = c.args in size-at a.piece.now a.place _ c.size.ensures
