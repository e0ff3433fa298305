-- `exposure::lists::client` meets its contract.
use mathlib.Core.Path.{sym, ap, ◌∙◌}
use Rattle.exposure.specs.Lists.{client_of}
use Rattle.exposure.proofs.lists.client.Goals as goal

pub by_two-requires : goal.by_two-requires
by_two-requires c = rw c.in-Intraday.is at c.requires

pub by_four-requires : goal.by_four-requires
by_four-requires c = rw c.in-EndOfDay.is at c.requires

pub returns-in-Intraday : goal.returns-in-Intraday
returns-in-Intraday c = c.by_two.ensures ∙ ap (λ f. client_of f c.args.figures.now c.args.i) (sym c.in-Intraday.is)

pub returns-in-EndOfDay : goal.returns-in-EndOfDay
returns-in-EndOfDay c = c.by_four.ensures ∙ ap (λ f. client_of f c.args.figures.now c.args.i) (sym c.in-EndOfDay.is)
