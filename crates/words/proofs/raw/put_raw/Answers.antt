use Rattle.text.proofs.Puts.{and_then}
use Rattle.words.specs.Hex.{raw_line}
use Rattle.words.proofs.raw.put_raw.Goals as goal

pub returns : goal.returns
unfolding raw_line
returns c = and_then _ _ c.put_text-p.ensures (and_then _ _ c.put_hex-q.ensures.puts c.put_text.ensures)
