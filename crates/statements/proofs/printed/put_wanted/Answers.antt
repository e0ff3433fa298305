use Rattle.text.proofs.Puts.{puts-as, and_then}
use Rattle.statements.proofs.Wording.{none-wanted, one_wanted}
use Rattle.statements.proofs.printed.put_wanted.Goals as goal

pub returns-then-wanted-eq0 : goal.returns-then-wanted-eq0
returns-then-wanted-eq0 c = puts-as (none-wanted _ c.if-wanted-eq0.true) c.put_text.ensures

pub returns : goal.returns
returns c = puts-as (one_wanted _ c.if-wanted-eq0.false) (and_then _ _ c.put_text-p.ensures (and_then _ _ c.put_short-q.ensures.puts c.put_text-2.ensures))
