-- What government securities count for (K7): never more than their face value, and no less where there are more of them; so collateral fits a word.
use mathlib.Core.Path.{◌≡◌, refl}
use Prim.Native.Nat.{ℕ, ◌≤◌}
use native.Mathlib.Omega.{arith}
use Rattle.rows.specs.declared.Rule.{Rule}
use Rattle.rows.specs.declared.Rule.TheVariants.{Old, New}
use Rattle.rows.specs.declared.Row.{Row}
use Rattle.rows.specs.Rows.{counted, collateral_by}
use Rattle.rows.specs.Facts.{InRange}

pub counted-old : (s : ℕ) → counted Old s ≡ s
unfolding counted
counted-old s = refl

pub counted-most : (rule : Rule) (s : ℕ) → counted rule s ≤ s
unfolding counted
counted-most Old s = omega arith
counted-most New s = omega arith

pub counted-rises : (rule : Rule) (s t : ℕ) → s ≤ t → counted rule s ≤ counted rule t
unfolding counted
counted-rises Old s t l = omega arith
counted-rises New s t l = omega arith

pub collateral-most : (rule : Rule) (r : Row) → InRange r → collateral_by rule r ≤ 50_000_000_000_000
collateral-most rule r h = omega (arith, counted-most rule r.allocated.securities, h.received, h.allocated, h.pledged)
