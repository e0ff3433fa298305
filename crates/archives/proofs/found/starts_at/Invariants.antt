-- `archives::found::starts_at` meets its contract. The invariant: the bytes passed are the line's, and what is left decides.
use mathlib.Core.Path.{◌≡◌}
use Prim.Native.Nat.{◌+◌}
use lib.ListN.{drop}
use Rattle.archives.specs.Files.{starts_with}
use Rattle.archives.proofs.found.starts_at.Given as goal

abbrev pub invariant-loop-i : goal.invariant-loop-i
invariant-loop-i l = starts_with (drop l.at l.bytes) l.line ≡ starts_with (drop (l.at + l.i) l.bytes) (drop l.i l.line)
