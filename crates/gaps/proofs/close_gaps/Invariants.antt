-- `gaps::close_gaps` meets its contract. The invariant: the rows passed are closed up, and the rest is as it was.
use Rattle.table.specs.Words.{turned_back}
use Rattle.gaps.proofs.Passing.{Going}
use Rattle.gaps.proofs.close_gaps.Given as goal

abbrev pub invariant-loop-i : goal.invariant-loop-i
invariant-loop-i l = Going (turned_back l.initial.t) l.i l.k l.t l.to
