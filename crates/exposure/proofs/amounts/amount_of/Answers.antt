-- `exposure::amounts::amount_of` meets its contract.
use mathlib.Core.Path.{◌≡◌, ap, ap₂, ◌∙◌}
use native.Mathlib.Omega.{arith}
use lib.IntN.{◌+ℤ◌}
use mir.Facts.{to_z-of_z}
use mir.Syntax.{w64}
use mir.Val.{of_z, to_z}
use Rattle.exposure.specs.Exposures.{payable_of, total_of}
use Rattle.exposure.proofs.Parts.{within-fits, two-within, three-within, four-within}
use Rattle.exposure.proofs.amounts.amount_of.Goals as goal

pub plus-intraday-requires : goal.plus-intraday-requires
plus-intraday-requires c =
    let a = c.args in
    rw (to_z-of_z c.ranges.premium, to_z-of_z c.ranges.loss)
    (within-fits _ _ (two-within a.premium a.loss a.exercise a.settlement c.requires) (omega arith))

pub plus-exercised-requires : goal.plus-exercised-requires
plus-exercised-requires c =
    let two : to_z w64 (of_z w64 c.plus-intraday.result) ≡ c.args.premium +ℤ c.args.loss =
    let s = c in
    let a = s.args in
    ap (λ z. to_z w64 (of_z w64 z)) (c.plus-intraday.ensures ∙ ap₂ ◌+ℤ◌ (to_z-of_z s.ranges.premium) (to_z-of_z s.ranges.loss))
    ∙ to_z-of_z (within-fits _ _ (two-within a.premium a.loss a.exercise a.settlement s.requires) (omega arith))
    in
    let a = c.args in
    rw (two, to_z-of_z c.ranges.exercise)
    (within-fits _ _ (three-within a.premium a.loss a.exercise a.settlement c.requires) (omega arith))

pub plus-requires : goal.plus-requires
plus-requires c =
    let two : to_z w64 (of_z w64 c.plus-intraday.result) ≡ c.args.premium +ℤ c.args.loss =
    let s = c in
    let a = s.args in
    ap (λ z. to_z w64 (of_z w64 z)) (c.plus-intraday.ensures ∙ ap₂ ◌+ℤ◌ (to_z-of_z s.ranges.premium) (to_z-of_z s.ranges.loss))
    ∙ to_z-of_z (within-fits _ _ (two-within a.premium a.loss a.exercise a.settlement s.requires) (omega arith))
    in
    let three : to_z w64 (of_z w64 c.plus-exercised.result) ≡ c.args.premium +ℤ c.args.loss +ℤ c.args.exercise =
    let s = c in
    let a = s.args in
    ap (λ z. to_z w64 (of_z w64 z)) (c.plus-exercised.ensures ∙ ap₂ ◌+ℤ◌ two (to_z-of_z s.ranges.exercise))
    ∙ to_z-of_z (within-fits _ _ (three-within a.premium a.loss a.exercise a.settlement s.requires) (omega arith))
    in
    let s = c in
    let a = s.args in
    rw (three, to_z-of_z s.ranges.settlement)
    (within-fits _ _ (four-within a.premium a.loss a.exercise a.settlement s.requires) (omega arith))

pub returns : goal.returns
returns c =
    let two : to_z w64 (of_z w64 c.plus-intraday.result) ≡ c.args.premium +ℤ c.args.loss =
    let s = c in
    let a = s.args in
    ap (λ z. to_z w64 (of_z w64 z)) (c.plus-intraday.ensures ∙ ap₂ ◌+ℤ◌ (to_z-of_z s.ranges.premium) (to_z-of_z s.ranges.loss))
    ∙ to_z-of_z (within-fits _ _ (two-within a.premium a.loss a.exercise a.settlement s.requires) (omega arith))
    in
    let three : to_z w64 (of_z w64 c.plus-exercised.result) ≡ c.args.premium +ℤ c.args.loss +ℤ c.args.exercise =
    let s = c in
    let a = s.args in
    ap (λ z. to_z w64 (of_z w64 z)) (c.plus-exercised.ensures ∙ ap₂ ◌+ℤ◌ two (to_z-of_z s.ranges.exercise))
    ∙ to_z-of_z (within-fits _ _ (three-within a.premium a.loss a.exercise a.settlement s.requires) (omega arith))
    in
    let four : to_z w64 (of_z w64 c.plus.result)
    ≡ total_of c.args.premium c.args.loss c.args.exercise c.args.settlement =
    let s = c in
    let a = s.args in
    ap (λ z. to_z w64 (of_z w64 z)) (c.plus.ensures ∙ ap₂ ◌+ℤ◌ three (to_z-of_z s.ranges.settlement))
    ∙ to_z-of_z (within-fits _ _ (four-within a.premium a.loss a.exercise a.settlement s.requires) (omega arith))
    in c.payable.ensures ∙ ap payable_of four
