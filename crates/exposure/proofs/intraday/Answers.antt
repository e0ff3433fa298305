-- `exposure::intraday` meets its contract.
use mathlib.Core.Path.{◌∙◌}
use lib.IntN.{pos}
use mir.Facts.{to_z-of_z}
use Rattle.exposure.specs.Exposures.{exposure_of}
use Rattle.exposure.proofs.Parts.{nothing-added}
use Rattle.exposure.proofs.intraday.Goals as goal

pub returns : goal.returns
returns c =
    let s = c in
    c.end_of_day.ensures
    ∙ (λ i. exposure_of (to_z-of_z s.ranges.premium i) (to_z-of_z s.ranges.loss i) (pos 0) (pos 0))
    ∙ nothing-added s.args.premium s.args.loss
