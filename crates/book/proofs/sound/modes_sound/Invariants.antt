-- `book::sound::modes_sound` meets its contract. The invariant: the flag is the test of the modes passed.
use mathlib.Core.Bool.{false}
use mathlib.Core.Path.{◌≡◌}
use lib.ListN.{get_or}
use Rattle.sums.specs.Sum.{all}
use Rattle.book.specs.Sound.{good_mode}
use Rattle.book.proofs.sound.modes_sound.Given as goal

abbrev pub invariant-loop-i : goal.invariant-loop-i
invariant-loop-i l =
    l.ok ≡ all l.i (λ j. good_mode j (get_or l.marks.sort j 0) (get_or l.marks.live j false) (get_or l.modes j false))
