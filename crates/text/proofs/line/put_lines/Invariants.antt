-- `text::line::put_lines` meets its contract: `Lines` holds at each turn.
use Rattle.text.proofs.Turns.{Lines}
use Rattle.text.proofs.line.put_lines.Given as goal

abbrev pub invariant-loop-i : goal.invariant-loop-i
invariant-loop-i l = Lines l.initial.room l.numbers l.room l.at l.i
