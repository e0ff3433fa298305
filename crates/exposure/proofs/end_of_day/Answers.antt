-- `exposure::end_of_day` meets its contract.
use mathlib.Core.Path.{◌≡◌, refl, sym, ap, ◌∙◌}
use borrow.Author.Tests.{not-true, not-false}
use mir.Facts.{to_z-of_z}
use Rattle.sums.proofs.Choices.{pick_first, pick_second}
use Rattle.exposure.specs.Exposures.{all_in_range, total_of, payable_of, exposure_of}
use Rattle.exposure.proofs.end_of_day.Goals as goal

pub returns-then-not-all_in_range : goal.returns-then-not-all_in_range
unfolding exposure_of
returns-then-not-all_in_range c =
    let tested : c.all_in_range.result
    ≡ all_in_range c.args.premium c.args.loss c.args.exercise c.args.settlement =
    let f = c.ranges in
    c.all_in_range.ensures ∙ (λ i. all_in_range (to_z-of_z f.premium i) (to_z-of_z f.loss i) (to_z-of_z f.exercise i) (to_z-of_z f.settlement i))
    in pick_second _ (sym tested ∙ not-true _ c.if-not-all_in_range.true-raw) refl

pub amount_of-requires : goal.amount_of-requires
amount_of-requires c = sym c.all_in_range.ensures ∙ not-false _ c.if-not-all_in_range.false-raw

pub returns : goal.returns
unfolding exposure_of
returns c =
    let tested : c.all_in_range.result
    ≡ all_in_range c.args.premium c.args.loss c.args.exercise c.args.settlement =
    let f = c.ranges in
    c.all_in_range.ensures ∙ (λ i. all_in_range (to_z-of_z f.premium i) (to_z-of_z f.loss i) (to_z-of_z f.exercise i) (to_z-of_z f.settlement i))
    in
    let t = c in
    let f = t.ranges in
    let amount = c.amount_of.ensures ∙ (λ i. payable_of (total_of (to_z-of_z f.premium i) (to_z-of_z f.loss i) (to_z-of_z f.exercise i) (to_z-of_z f.settlement i))) in
    pick_first _ (sym tested ∙ not-false _ c.if-not-all_in_range.false-raw) (ap (λ n. record { refusal = 0; amount = n }) amount)
