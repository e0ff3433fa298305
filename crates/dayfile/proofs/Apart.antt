-- Anything follows where two constructors would be equal: `apart (cc)`.
use mathlib.Core.Path.{◌≡◌}
use Prim.Native.Nat.{ℕ}
use native.Mathlib.Omega.{arith}

pub zero-is-not-one : {A : Type 0} → ◌≡◌ {A = ℕ} 0 1 → A
zero-is-not-one e = absurd (omega arith)
