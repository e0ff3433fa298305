-- `codes::own::set_pledged` meets its contract: no line of the table is asked.
use mathlib.Core.Path.{refl, ap, ◌∙◌}
use Rattle.rows.specs.Rows.{with_pledged}
use Rattle.codes.proofs.Made.{no-line-gives-0, opened-answers, pledged-anew}
use Rattle.codes.proofs.own.set_pledged.Goals as goal

pub returns : goal.returns
returns c =
    let s = c in
    opened-answers no-line-gives-0
    (pledged-anew s.requires.0 s.requires.1 _ _ (c.with_pledged-new.ensures ∙ ap (λ q. with_pledged q s.args.y) c.row_at-row.ensures) refl)
