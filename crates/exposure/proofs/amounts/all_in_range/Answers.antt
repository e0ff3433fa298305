-- `exposure::amounts::all_in_range` meets its contract.
use mathlib.Core.Bool.{◌&&◌}
use mathlib.Core.Path.{ap, ap₂, ◌∙◌}
use mir.Facts.{to_z-of_z}
use Rattle.exposure.specs.Exposures.{in_range}
use Rattle.exposure.proofs.amounts.all_in_range.Goals as goal

pub returns : goal.returns
returns c =
    let s = c in
    ap₂ ◌&&◌ (ap₂ ◌&&◌ (ap₂ ◌&&◌
    (c.in_range.ensures ∙ ap in_range (to_z-of_z s.ranges.premium))
    (c.in_range-2.ensures ∙ ap in_range (to_z-of_z s.ranges.loss)))
    (c.in_range-3.ensures ∙ ap in_range (to_z-of_z s.ranges.exercise)))
    (c.in_range-4.ensures ∙ ap in_range (to_z-of_z s.ranges.settlement))
