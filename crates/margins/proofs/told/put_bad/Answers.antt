use Rattle.text.proofs.Puts.{and_then}
use Rattle.margins.specs.Printed.{bad_text}
use Rattle.margins.proofs.told.put_bad.Goals as goal

pub returns : goal.returns
unfolding bad_text
returns c = and_then _ _ c.put_text-p1.ensures (and_then _ _ c.put_number-p2.ensures.puts c.put_text.ensures)
