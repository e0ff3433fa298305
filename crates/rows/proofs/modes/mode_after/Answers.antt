-- `rows::modes::mode_after` meets its contract.
use mathlib.Core.Bool.{Bool, true, false, not, ◌&&◌, ◌||◌}
use mathlib.Core.Path.{◌≡◌, refl}
use Rattle.sums.specs.Choice.{pick}
use Rattle.rows.specs.Modes.{mode_after}
use Rattle.rows.proofs.modes.mode_after.Goals as goal

chosen : (on off before : Bool) → (on || not off && before) ≡ pick on true (pick off false before)
unfolding pick
chosen true off before = refl
chosen false true before = refl
chosen false false before = refl

pub returns : goal.returns
unfolding mode_after
returns c = chosen _ _ _
