-- `statement::records::not_whole` meets its contract.
use Rattle.statement.proofs.Reading.{short, not-whole-at}
use Rattle.statement.proofs.records.not_whole.Goals as goal

pub returns-then-left-lt4 : goal.returns-then-left-lt4
returns-then-left-lt4 c = let a = c.args in short a.piece.now a.place c.if-left-lt4.true

pub returns : goal.returns
returns c = let a = c.args in not-whole-at a.piece.now a.place _ c.size_at.ensures
