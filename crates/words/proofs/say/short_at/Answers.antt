use Rattle.words.proofs.Saying.{short-yes, short-no}
use Rattle.words.proofs.say.short_at.Goals as goal

pub returns-then-g-le65535 : goal.returns-then-g-le65535
returns-then-g-le65535 c = short-yes _ _ _ c.number_at-g.ensures c.if-g-le65535.true

pub returns : goal.returns
returns c = short-no _ _ _ c.number_at-g.ensures c.if-g-le65535.false
