-- What was read of a file that may have so many bytes.
use mathlib.Core.Bool.{Bool, true, false}
use mathlib.Core.Path.{◌≡◌, refl}
use Prim.Native.Nat.{ℕ, ◌≤◌}
use native.Mathlib.Omega.{arith}
use lib.Dec.{ltb}
use borrow.Author.Tests.{ltb-false}
use Rattle.sums.specs.Choice.{pick}
use Rattle.streams.specs.declared.Moved.{Moved}
use Rattle.streams.specs.Calls.{nothing_moved, within_of}

module _ (m : Moved) (longest : ℕ) where
  -- no more than was read, and no more than so many
  pub within_both : ((within_of m longest).count ≤ m.count) × ((within_of m longest).count ≤ longest)
  unfolding pick
  within_both = by (ltb longest m.count) refl
    where
      by : (t : Bool) → ltb longest m.count ≡ t → ((pick t nothing_moved m).count ≤ m.count) × ((pick t nothing_moved m).count ≤ longest)
      by true e = (omega arith, omega arith)
      by false e = (omega arith, omega (arith, ltb-false longest m.count e))
