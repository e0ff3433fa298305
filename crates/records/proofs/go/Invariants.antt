-- `records::go` meets its contract: `Loop` of `Turning` holds at each turn of the book that the words are.
use Prim.Native.Nat.{◌-◌}
use Rattle.steps.specs.Steps.{book_in, Going}
use Rattle.records.proofs.Turning.{Loop}
use Rattle.records.proofs.go.Given as goal

abbrev pub invariant-loop-h : goal.invariant-loop-h
invariant-loop-h l =
    Loop l.piece l.most l.numbered l.initial.room (book_in l.initial.at l.was l.initial.l) l.initial.place l.initial.read l.initial.done l.room (book_in l.at l.was l.l) l.place l.read l.done
    × Going l.at l.was l.l

abbrev pub decreases-loop-h : goal.decreases-loop-h
decreases-loop-h l =
    l.most - l.read
