-- `codes::asked::mark_of` meets its contract.
use mathlib.Core.Path.{refl, sym, ◌∙◌}
use Rattle.sums.proofs.Choices.{pick_first, pick_second}
use Rattle.codes.proofs.Asking.{one-mark}
use Rattle.codes.proofs.asked.mark_of.Goals as goal

pub returns-then-names_margin : goal.returns-then-names_margin
returns-then-names_margin c = let m = c in pick_first _ (sym m.names_margin.ensures ∙ c.if-names_margin.true) refl ∙ one-mark m.args.code m.requires

pub returns-else-names_margin : goal.returns-else-names_margin
returns-else-names_margin c = let m = c in pick_second _ (sym m.names_margin.ensures ∙ c.if-names_margin.false) refl ∙ one-mark m.args.code m.requires
