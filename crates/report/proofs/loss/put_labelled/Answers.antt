use Rattle.text.specs.Numbers.{spaced}
use Rattle.text.proofs.Puts.{and_then}
use Rattle.report.proofs.loss.put_labelled.Goals as goal

pub returns : goal.returns
unfolding spaced
returns c = and_then _ _ c.put_text-p.ensures c.put_number.ensures.puts
