-- `codes::own::revise_margin` meets its contract: no line of the table is asked.
use mathlib.Core.Path.{refl, ap, ◌∙◌}
use Rattle.rows.specs.Rows.{with_margin}
use Rattle.codes.proofs.Made.{no-line-gives-0, opened-answers, margin-anew}
use Rattle.codes.proofs.own.revise_margin.Goals as goal

pub returns : goal.returns
returns c =
    let s = c in
    opened-answers no-line-gives-0
    (margin-anew s.requires.0 s.requires.1 _ _ (c.with_margin-new.ensures ∙ ap (λ q. with_margin q s.args.y) c.row_at-row.ensures) refl)
