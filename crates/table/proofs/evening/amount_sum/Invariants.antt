-- `table::evening::amount_sum` meets its contract. The invariant: the total is that of the accounts passed.
use mathlib.Core.Path.{◌≡◌}
use Prim.Native.Nat.{◌*◌}
use Rattle.table.specs.Inner.{amount_sum}
use Rattle.table.proofs.evening.amount_sum.Given as goal

abbrev pub invariant-loop-i : goal.invariant-loop-i
invariant-loop-i l =
    (l.run ≡ 256 * l.k) × (l.sum ≡ amount_sum l.w l.k l.i)
