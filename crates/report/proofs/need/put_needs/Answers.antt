use Rattle.std.proofs.Common.{take, refl, arith}
use Rattle.table.specs.Words.{turned_back}
use Rattle.text.proofs.Puts.{puts_none}
use Rattle.report.proofs.NeedLines.{no_line, tested-text}
use Rattle.report.proofs.need.put_needs.Goals as goal

pub returns-in_default : goal.returns-in_default
returns-in_default c = rw (no_line (turned_back c.args.t) c.in_default.ensures.unsound) (puts_none _ _ refl (omega arith))

pub returns : goal.returns
returns c = rw (tested-text (turned_back c.args.t) (take c.args.n c.in-Some.needs) c.in-Some.ensures.tested.0) at c.put_list.ensures
