-- `archiving::retired` meets its contract.
use mathlib.Core.Bool.{Bool, false, not}
use mathlib.Core.List.{List}
use mathlib.Core.Path.{◌≡◌}
use Prim.Native.Nat.{ℕ}
use lib.ListN.{get_or}
use Rattle.sums.specs.Sum.{sum, only}
use Rattle.archiving.proofs.retired.Given as goal

abbrev pub gone : List Bool → ℕ → ℕ
gone live i = only (not (get_or live i false)) 1

abbrev pub invariant-loop-i : goal.invariant-loop-i
invariant-loop-i l = l.many ≡ sum l.i (gone l.t.marks.live)
