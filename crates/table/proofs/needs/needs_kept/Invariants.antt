-- `table::needs::needs_kept` meets its contract. The invariant: the flag is the test of the kept needs passed (K3).
use mathlib.Core.Bool.{Bool}
use mathlib.Core.List.{List}
use mathlib.Core.Path.{◌≡◌}
use Prim.Native.Nat.{ℕ}
use lib.Dec.{eqb}
use lib.ListN.{get_or}
use Rattle.sums.specs.Sum.{all}
use Rattle.table.proofs.needs.needs_kept.Given as goal

abbrev pub same : List ℕ → List ℕ → ℕ → Bool
same needs fresh j = eqb (get_or needs j 0) (get_or fresh j 0)

abbrev pub invariant-loop-i : goal.invariant-loop-i
invariant-loop-i l =
    l.ok ≡ all l.i (same l.needs l.fresh)
