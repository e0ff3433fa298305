-- `book::sound::modes_sound` meets its contract. The invariant: the flag is the test of the modes passed.
use mathlib.Core.Bool.{Bool, false, ◌&&◌}
use mathlib.Core.Path.{sym, ap, ◌∙◌}
use Prim.Native.Nat.{ℕ}
use native.Mathlib.Omega.{arith}
use lib.ListN.{get_or}
use Rattle.sums.specs.Sum.{all}
use Rattle.sums.proofs.Sums.{all_none, all-step}
use Rattle.book.specs.Sound.{good_mode}
use Rattle.book.specs.Inner.{modes_at}
use Rattle.book.proofs.sound.modes_sound.Goals as goal

pub loop-i-init : goal.loop-i-init
loop-i-init c =
    let good : ℕ → Bool =
    λ j. good_mode j (get_or c.args.marks.now.sort j 0) (get_or c.args.marks.now.live j false) (get_or c.args.modes.now j false)
    in sym (all_none good)

pub loop-i-preserved : goal.loop-i-preserved
loop-i-preserved c =
    let good : ℕ → Bool =
    λ j. good_mode j (get_or c.args.marks.now.sort j 0) (get_or c.args.marks.now.live j false) (get_or c.args.modes.now j false)
    in
    let at = c in
    let i = at.loop-i.i in
    ap (λ x. x && good i) at.loop-i.invariant ∙ sym (all-step i good)

pub returns : goal.returns
unfolding modes_at
returns c =
    let good : ℕ → Bool =
    λ j. good_mode j (get_or c.args.marks.now.sort j 0) (get_or c.args.marks.now.live j false) (get_or c.args.modes.now j false)
    in c.loop-i.invariant ∙ ap (λ (k : ℕ). all k good) (omega arith)

pub bounds-modes-i : goal.bounds-modes-i
bounds-modes-i c = omega arith
