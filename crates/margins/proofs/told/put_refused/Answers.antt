use Rattle.std.proofs.Common.{ap}
use Rattle.text.proofs.Puts.{puts-as, and_then}
use Rattle.margins.specs.Printed.{refused_text}
use Rattle.margins.proofs.told.put_refused.Goals as goal

pub returns : goal.returns
unfolding refused_text
returns c = puts-as (ap refused_text c.from.ensures) (and_then _ _ c.put_text-p.ensures c.put_number.ensures.puts)
