use Rattle.words.proofs.Steps.{in-range, below-range}
use Rattle.words.proofs.scan.is_within.Goals as goal

pub returns-then-b-low : goal.returns-then-b-low
returns-then-b-low c = below-range _ _ _ c.if-b-low.true

pub returns : goal.returns
returns c = in-range _ _ _ c.if-b-low.false
