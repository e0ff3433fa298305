-- `text::texts::fill` meets its contract. The invariant: the numbers passed have their texts.
use mathlib.Core.Path.{◌≡◌}
use Prim.Native.Nat.{ℕ, ◌<◌}
use lib.ListN.{length, get_or}
use Rattle.text.specs.Inner.{IsText}
use Rattle.text.proofs.texts.fill.Given as goal

abbrev pub invariant-loop-n : goal.invariant-loop-n
invariant-loop-n l = (length l.t ≡ 1000) × ((k : ℕ) → k < l.n → IsText k (get_or l.t k 0))
