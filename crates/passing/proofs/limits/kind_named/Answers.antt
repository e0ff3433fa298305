-- `passing::limits::kind_named` meets its contract.
use mathlib.Core.Path.{refl}
use borrow.Author.Tests.{eq-eqb, ne_eqb}
use Rattle.sums.proofs.Choices.{pick_first, pick_second}
use Rattle.passing.proofs.limits.kind_named.Goals as goal

pub returns-then-named-eq1 : goal.returns-then-named-eq1
returns-then-named-eq1 c = pick_first _ (eq-eqb _ _ c.if-named-eq1.true) refl

pub returns-then-named-eq2 : goal.returns-then-named-eq2
returns-then-named-eq2 c = pick_second _ (ne_eqb _ _ c.if-named-eq1.false) (pick_first _ (eq-eqb _ _ c.if-named-eq2.true) refl)

pub returns-then-named-eq4 : goal.returns-then-named-eq4
returns-then-named-eq4 c = pick_second _ (ne_eqb _ _ c.if-named-eq1.false) (pick_second _ (ne_eqb _ _ c.if-named-eq2.false) (pick_first _ (eq-eqb _ _ c.if-named-eq4.true) refl))

pub returns : goal.returns
returns c = pick_second _ (ne_eqb _ _ c.if-named-eq1.false) (pick_second _ (ne_eqb _ _ c.if-named-eq2.false) (pick_second _ (ne_eqb _ _ c.if-named-eq4.false) refl))
