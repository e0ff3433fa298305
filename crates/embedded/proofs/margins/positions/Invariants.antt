-- `embedded::margins::positions` meets its contract.
use Rattle.std.proofs.Common.{ℕ, ◌≡◌, ◌<◌, length, get_or}
use Rattle.currency.specs.declared.Side.TheVariants.{Futures}
use Rattle.currency.specs.declared.Position.{Position}
use Rattle.embedded.specs.Margins.{position_at}
use Rattle.embedded.proofs.margins.positions.Given as goal

abbrev pub empty : Position
empty = record { product = 0; side = Futures; notional = 0 }

abbrev pub invariant-loop-i : goal.invariant-loop-i
invariant-loop-i l =
    (length l.place-items ≡ 64) × ((a : ℕ) → a < l.i → get_or l.place-items a empty ≡ position_at l.products l.sides l.notionals a)
