use Rattle.std.proofs.Common.{refl, arith}
use Rattle.text.proofs.Puts.{puts_none, puts-as}
use Rattle.feed.proofs.TurnText.{takes_told, run-takes, text-told, no_text}
use Rattle.feed.proofs.turn.carry_on.Goals as goal

pub returns-then-printing-clause-puts : goal.returns-then-printing-clause-puts
returns-then-printing-clause-puts c =
    let t = c.tell in
    let x = t.result.went in
    puts-as (text-told _ _ _ c.if-printing.true (takes_told x.closing x.read c.args.left t.ensures.read_le_most.0 c.requires.3 t.ensures.read_le_most.1)) t.ensures.puts

pub returns-clause-excess_value : goal.returns-clause-excess_value
returns-clause-excess_value c = run-takes _ _ _ c.requires.3 c.go-went.ensures.excess_value

pub returns-clause-puts : goal.returns-clause-puts
returns-clause-puts c = puts-as (no_text _ _ _ c.if-printing.false _) (puts_none _ 0 refl (omega arith))
