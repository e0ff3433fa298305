-- `telling::tell` meets its contract: `Runs` and `Told` hold at each turn of the book that the words are, whatever number of records the loop is held to.
use Prim.Native.Nat.{◌-◌, ◌≤◌}
use Rattle.steps.specs.Steps.{book_in, Going}
use Rattle.telling.specs.Explained.{line_told}
use Rattle.telling.proofs.Telling.{Told, Runs}
use Rattle.telling.proofs.tell.Given as goal

abbrev pub invariant-loop-h : goal.invariant-loop-h
invariant-loop-h l =
    Runs l.piece (book_in l.initial.at l.was l.initial.l) (book_in l.at l.was l.l) l.place l.read l.done
    × Going l.at l.was l.l
    × Told (line_told l.explained) l.piece l.initial.text (book_in l.initial.at l.was l.initial.l) l.text (book_in l.at l.was l.l) l.place l.read l.put
    × (l.read ≤ l.most)

abbrev pub decreases-loop-h : goal.decreases-loop-h
decreases-loop-h l =
    l.most - l.read
