-- `closeout::pays::fill` meets its contract. The invariant: the pass stands at account i.
use mathlib.Core.List.{List}
use Prim.Native.Nat.{ℕ}
use Rattle.std.specs.Prelude.{map}
use Rattle.closeout.specs.declared.pays.Purses.{Purses}
use Rattle.table.specs.Words.{turned_back}
use Rattle.closeout.proofs.Pass.{Passed}
use Rattle.closeout.proofs.pays.fill.Given as goal

-- what each account's purses have left in round one, and in round two
abbrev pub lefts : List Purses → List ℕ
lefts = map (λ x. x.left)

abbrev pub frees : List Purses → List ℕ
frees = map (λ x. x.free)

abbrev pub invariant-loop-i : goal.invariant-loop-i
invariant-loop-i l = Passed (turned_back l.t) l.losses l.initial.room l.room (lefts l.purses) (frees l.purses) l.cm.left l.cm.free l.uncovered l.i
