-- `exposure::margin` meets its contract.
use mathlib.Core.Path.{◌≡◌, ap, ◌∙◌}
use native.Mathlib.Omega.{arith}
use mir.Facts.{to_z-of_z}
use Rattle.exposure.specs.Exposures.{exposure_of}
use Rattle.exposure.specs.Inner.{with_exposure}
use Rattle.exposure.proofs.Joining.{made-bounded, amount-most, joined_is, joined-named}
use Rattle.exposure.proofs.margin.Goals as goal

pub with_exposure-requires : goal.with_exposure-requires
with_exposure-requires c =
    let exposed : c.end_of_day-exposure.result
    ≡ exposure_of c.args.premium c.args.loss c.args.exercise c.args.settlement =
    let f = c.ranges in
    c.end_of_day-exposure.ensures ∙ (λ i. exposure_of (to_z-of_z f.premium i) (to_z-of_z f.loss i) (to_z-of_z f.exercise i) (to_z-of_z f.settlement i))
    in
    let a = c.args in (
      made-bounded a.serial a.account a.initial a.positions a.number c.margin-made.result c.margin-made.ensures.value,
      omega (arith, ap (λ x. x.amount) exposed, amount-most a.premium a.loss a.exercise a.settlement),
    )

pub returns : goal.returns
returns c =
    let exposed : c.end_of_day-exposure.result
    ≡ exposure_of c.args.premium c.args.loss c.args.exercise c.args.settlement =
    let f = c.ranges in
    c.end_of_day-exposure.ensures ∙ (λ i. exposure_of (to_z-of_z f.premium i) (to_z-of_z f.loss i) (to_z-of_z f.exercise i) (to_z-of_z f.settlement i))
    in
    let e = c in
    let a = e.args in
    let whole = joined-named _ _ _ _ _ _ _ _ _ _
    (c.with_exposure.ensures
    ∙ (λ i. with_exposure (c.margin-made.ensures.value i) (exposed i).refusal (exposed i).amount)
    ∙ joined_is a.premium a.loss a.exercise a.settlement a.serial a.account a.initial a.positions a.number) in
    record { value = whole.0; result_value = whole.1 }
