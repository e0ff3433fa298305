use Rattle.std.proofs.Common.{◌≡◌, ◌≤◌, max, drop}
use Rattle.words.specs.Inner.{past_blanks}
use Rattle.words.proofs.scan.past_blanks.Given as goal

abbrev pub invariant-loop-i : goal.invariant-loop-i
invariant-loop-i l = (past_blanks (drop l.at l.text) l.at ≡ past_blanks (drop l.i l.text) l.i) × (l.i ≤ max l.at l.i-end)
