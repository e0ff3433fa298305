use Rattle.std.proofs.Common.{◌≡◌, ◌-◌, length}
use Rattle.steps.specs.Steps.{book_in, Going}
use Rattle.feed.proofs.Feeding.{Feeding}
use Rattle.feed.proofs.in_turns.Given as goal

abbrev pub invariant-loop-space : goal.invariant-loop-space
invariant-loop-space l =
    Feeding l.printing l.explained (book_in l.initial.at l.was l.initial.l) l.space (book_in l.at l.was l.l) l.rest l.read l.done l.printed
    × Going l.at l.was l.l × (length l.text ≡ 16384)

abbrev pub decreases-loop-space : goal.decreases-loop-space
decreases-loop-space l = 1000000 - l.read
