-- `lent::unfit` meets its contract.
use mathlib.Core.Bool.{false}
use mathlib.Core.Path.{sym, ◌∙◌}
use Rattle.lent.proofs.Lent.{refused-1, refused-15}
use Rattle.lent.proofs.unfit.Goals as goal

pub returns-then-sound_in : goal.returns-then-sound_in
returns-then-sound_in c = sym (refused-15 c.args.bytes.now (sym c.sound_in.ensures ∙ c.if-sound_in.true))

pub returns-else-sound_in : goal.returns-else-sound_in
returns-else-sound_in c = sym (refused-1 c.args.bytes.now false (sym c.sound_in.ensures ∙ c.if-sound_in.false))
