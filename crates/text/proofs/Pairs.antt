-- A number's digits put into a room two at a time, the first ones first.
use mathlib.Core.List.{List}
use Prim.Native.Nat.{ℕ, ◌/◌, ◌%◌, ◌≤◌}
use Rattle.text.specs.Numbers.{decimal}
use Rattle.text.specs.Inner.{Puts, pair}
use Rattle.text.proofs.Digits.{decimal-hundred}
use Rattle.text.proofs.Puts.{and_then}

-- the digits of a number's hundredth, and its last two after them
pub hundred-more : {room room₁ room₂ : List ℕ} {at p q : ℕ} (n : ℕ) → 100 ≤ n → Puts room at (decimal (n / 100)) room₁ p
    → Puts room₁ p (pair (n % 100)) room₂ q → Puts room at (decimal n) room₂ q
hundred-more n h f g = rw (decimal-hundred n h) (and_then (decimal (n / 100)) (pair (n % 100)) f g)
