-- `archiving::put_archived` meets its contract. The invariant: the room has at its start what the rows passed put.
use Rattle.table.specs.Words.{turned_back}
use Rattle.text.specs.Inner.{Puts}
use Rattle.archiving.proofs.Entries.{entries}
use Rattle.archiving.proofs.put_archived.Given as goal

abbrev pub invariant-loop-i : goal.invariant-loop-i
invariant-loop-i l = Puts l.initial.room 0 (entries (turned_back l.t) l.i) l.room l.at
