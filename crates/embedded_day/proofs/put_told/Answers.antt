-- `embedded_day::put_told` meets its contract.
use mathlib.Core.List.{[], ◌∷◌}
use Rattle.lent.proofs.Filled.{filled}
use Rattle.embedded_day.proofs.put_told.Goals as goal

pub returns : goal.returns
returns c =
    let a = c.args in
    filled (a.word ∷ a.place ∷ a.read ∷ a.done ∷ []) a.told.now c.requires
