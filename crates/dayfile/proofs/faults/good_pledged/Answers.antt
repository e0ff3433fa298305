-- `dayfile::records::good_pledged` meets its contract.
use mathlib.Core.Path.{sym, ap, ◌∙◌}
use borrow.Author.Tests.{eq-eqb, ne_eqb}
use Rattle.sums.proofs.Choices.{pick_yes, pick_no}
use Rattle.dayfile.specs.Records.{good_amount}
use Rattle.dayfile.proofs.faults.good_pledged.Goals as goal

pub returns-then-code-eq12 : goal.returns-then-code-eq12
returns-then-code-eq12 c =
    let a = c.args in
    c.good_set.ensures ∙ ap (λ n. good_amount a.bit n a.x) (sym (pick_yes _ _ _ (eq-eqb _ _ c.if-code-eq12.true)))

pub returns : goal.returns
returns c =
    let a = c.args in
    c.good_amount.ensures ∙ ap (λ n. good_amount a.bit n a.x) (sym (pick_no _ _ _ (ne_eqb _ _ c.if-code-eq12.false)))
