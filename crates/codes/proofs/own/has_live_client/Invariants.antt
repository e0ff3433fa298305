-- `codes::own::has_live_client` meets its contract. The invariant: the flag says whether one of the accounts passed is a live client.
use mathlib.Core.Path.{◌≡◌}
use Rattle.sums.specs.Sum.{any}
use Rattle.codes.specs.Own.{client_in}
use Rattle.codes.proofs.own.has_live_client.Given as goal

abbrev pub invariant-loop-i : goal.invariant-loop-i
invariant-loop-i l =
    l.some ≡ any l.i (client_in l.marks l.a)
