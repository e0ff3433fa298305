-- `telling::most_at` meets its contract: the modes are the book's.
use mathlib.Core.Path.{◌≡◌, sym, ap, ◌∙◌}
use Rattle.sums.proofs.Choices.{pick_yes, pick_no}
use Rattle.passing.specs.Most.{most_of}
use Rattle.steps.specs.Steps.{modes_in}
use Rattle.telling.proofs.Lines.{lent-with, most-with}
use Rattle.telling.proofs.most_at.Goals as goal
use Rattle.telling.proofs.most_at.Goals.{then-at, else-at}

pub most_in-requires : goal.most_in-requires
most_in-requires c =
    let modes : modes_in c.args.at.waiting c.args.was.now c.args.l.now.modes ≡ c.if-at.modes.now =
    elim c.if-at.branch [ then-at w ↦ pick_yes _ _ _ w.if-at.true ∙ ap (λ x. x.now) (sym w.modes-is) | else-at w ↦ pick_no _ _ _ w.if-at.false ∙ ap (λ x. x.now) (sym w.modes-is) ]
    in lent-with _ _ _ _ _ _ _ _ modes c.requires

pub returns : goal.returns
returns c =
    let modes : modes_in c.args.at.waiting c.args.was.now c.args.l.now.modes ≡ c.if-at.modes.now =
    elim c.if-at.branch [ then-at w ↦ pick_yes _ _ _ w.if-at.true ∙ ap (λ x. x.now) (sym w.modes-is) | else-at w ↦ pick_no _ _ _ w.if-at.false ∙ ap (λ x. x.now) (sym w.modes-is) ]
    in most-with _ _ _ _ _ _ _ _ modes c.requires _ c.most_in.ensures ∙ ap (most_of _) c.head_only.ensures
