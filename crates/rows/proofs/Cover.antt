-- "The CM's need, defined below, is at most the CM's collateral.": since K8 no sound book has to be covered, and only laws speak of it.
use Prim.Native.Nat.{◌≤◌}
use Rattle.rows.specs.View.{View, need_cm}

abbrev pub Covered : View → Type 0
Covered v = need_cm v ≤ v.collateral 0
