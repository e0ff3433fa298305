use Rattle.text.proofs.Puts.{and_then}
use Rattle.closeouts.specs.LossLines.{fault_text}
use Rattle.closeouts.proofs.told.put_fault.Goals as goal

pub returns : goal.returns
unfolding fault_text
returns c = and_then _ _ c.put_text-p.ensures (and_then _ _ c.put_number-q.ensures.puts c.put_words.ensures)
