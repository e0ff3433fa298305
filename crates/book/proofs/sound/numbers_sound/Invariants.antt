-- `book::sound::numbers_sound` meets its contract. The invariant: the flag is the test of the places passed, and the number of the last of them is at hand.
use mathlib.Core.Path.{◌≡◌}
use Prim.Native.Nat.{◌-◌}
use lib.ListN.{get_or}
use Rattle.sums.specs.Sum.{all}
use Rattle.book.specs.Sound.{good_number}
use Rattle.book.proofs.sound.numbers_sound.Given as goal

abbrev pub invariant-loop-i : goal.invariant-loop-i
invariant-loop-i l =
    (l.before ≡ get_or l.numbers (l.i - 1) 0) × (l.ok ≡ all l.i (λ j. good_number l.count l.next j (get_or l.numbers (j - 1) 0) (get_or l.numbers j 0)))
