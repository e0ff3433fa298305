-- `exposure::join::with_exposure` meets its contract.
use mathlib.Core.Bool.{not}
use mathlib.Core.Path.{refl, ap, ◌∙◌}
use borrow.Author.Tests.{eq-eqb, ne_eqb}
use Rattle.sums.proofs.Choices.{pick_no, pick_first, pick_second}
use Rattle.exposure.proofs.join.with_exposure.Goals as goal

pub with_amount-requires : goal.with_amount-requires
with_amount-requires c =
    let m = c in
    let s = m in
    (rw m.in-Given.is at s.requires.0, s.requires.1)

pub returns-then-n-refusal : goal.returns-then-n-refusal
returns-then-n-refusal c = rw c.in-Refused.is (pick_first _ c.if-n-refusal.true refl)

pub returns-else-n-refusal : goal.returns-else-n-refusal
returns-else-n-refusal c = rw c.in-Refused.is (pick_second _ c.if-n-refusal.false refl)

pub returns-then-refusal-ne0 : goal.returns-then-refusal-ne0
returns-then-refusal-ne0 c = rw c.in-Given.is (pick_first _ (ap not (ne_eqb _ _ c.if-refusal-ne0.true)) refl)

pub returns-else-refusal-ne0 : goal.returns-else-refusal-ne0
returns-else-refusal-ne0 c =
    rw c.in-Given.is
    (pick_second _ (ap not (eq-eqb _ _ c.if-refusal-ne0.false)) (c.with_amount.ensures ∙ pick_no _ _ _ refl))
