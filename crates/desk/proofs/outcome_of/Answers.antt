-- `desk::outcome_of` meets its contract.
use mathlib.Core.Path.{sym, ◌∙◌}
use lib.Dec.{eqb}
use borrow.Author.Tests.{eq-eqb, ne_eqb}
use Rattle.sums.proofs.Choices.{pick_yes, pick_no}
use Rattle.desk.proofs.outcome_of.Goals as goal

pub returns-then-refusal-ne0 : goal.returns-then-refusal-ne0
returns-then-refusal-ne0 c = let a = c.args in sym (pick_no (eqb a.refusal 0) _ _ (ne_eqb _ 0 c.if-refusal-ne0.true))

pub returns-then-given-ne0 : goal.returns-then-given-ne0
returns-then-given-ne0 c =
    let a = c.args in
    sym (pick_yes (eqb a.refusal 0) _ _ (eq-eqb _ 0 c.if-refusal-ne0.false) ∙ pick_no (eqb a.given 0) _ _ (ne_eqb _ 0 c.if-given-ne0.true))

pub returns : goal.returns
returns c =
    let a = c.args in
    sym (pick_yes (eqb a.refusal 0) _ _ (eq-eqb _ 0 c.if-refusal-ne0.false) ∙ pick_yes (eqb a.given 0) _ _ (eq-eqb _ 0 c.if-given-ne0.false))
