-- `bookfile::writing::put_amounts` meets its contract.
use mathlib.Core.Path.{◌≡◌}
use lib.ListN.{length}
use lib.Seq.{sets}
use Rattle.bookfile.specs.Written.{joined, amount_part}
use Rattle.bookfile.proofs.writing.put_amounts.Given as goal

abbrev pub invariant-loop-k : goal.invariant-loop-k
invariant-loop-k l =
    (length l.room ≡ length l.initial.room) × (l.room ≡ sets l.initial.room l.place (joined (amount_part l.amounts l.i) l.k))
