-- `bookfile::writing::put_places` meets its contract: the first i places stand behind the head.
use mathlib.Core.Path.{◌≡◌}
use lib.ListN.{length}
use lib.Seq.{sets}
use Rattle.bookfile.specs.Written.{size, joined, place_bytes}
use Rattle.bookfile.specs.declared.Version.TheVariants.{Two}
use Rattle.bookfile.proofs.writing.put_places.Given as goal

abbrev pub invariant-loop-i : goal.invariant-loop-i
invariant-loop-i l =
    (length l.room ≡ size) × (l.room ≡ sets l.initial.room 12 (joined (place_bytes Two l.t) l.i))
