use Rattle.std.proofs.Common.{◌≡◌, ◌+◌, ◌-◌, ◌≤◌, suc, length, drop}
use Rattle.margins.specs.Positions.{said_in, held_in}
use Rattle.margins.proofs.Holding.{held_on}
use Rattle.margins.proofs.positions.read.Given as goal

abbrev pub invariant-loop-at : goal.invariant-loop-at
invariant-loop-at l =
    (l.at ≤ length l.text + 1) × (l.lines ≤ l.at) × (l.held.number ≤ l.at) × (held_on l.held (suc l.lines) (said_in (drop l.at l.text)) ≡ held_in l.text)

abbrev pub decreases-loop-at : goal.decreases-loop-at
decreases-loop-at l = length l.text + 1 - l.at
