use Rattle.std.proofs.Common.{[], ◌∷◌, ◌++◌, ap, ◌∙◌}
use Rattle.text.specs.Numbers.{newline}
use Rattle.text.proofs.Puts.{and_then, puts-as}
use Rattle.report.specs.Holdings.{percent_of, percent_text, holding_line}
use Rattle.report.proofs.holding.put_holding.Goals as goal

pub returns-clause-puts : goal.returns-clause-puts
unfolding holding_line
returns-clause-puts c =
    let e = c.percent_of.ensures ∙ ap (percent_of c.args.used) c.collateral_of.ensures in
    and_then _ _ c.put_front-p1.ensures.puts
    (and_then _ _ c.put_amounts-p2.ensures.puts
    (puts-as (ap (λ q. percent_text q ++ (newline ∷ [])) e) c.put_percent.ensures.puts))
