use Rattle.std.proofs.Common.{◌≡◌, ◌+◌, ◌≤◌, max, drop}
use Rattle.words.specs.Texts.{line_length}
use Rattle.words.proofs.piece.line_end.Given as goal

abbrev pub invariant-loop-i : goal.invariant-loop-i
invariant-loop-i l = (l.at + line_length (drop l.at l.text) ≡ l.i + line_length (drop l.i l.text)) × (l.i ≤ max l.at l.i-end)
