-- A list filled from its start with as many numbers as it has.
use mathlib.Core.List.{List, ◌++◌, append-nil}
use mathlib.Core.Path.{◌≡◌, ap, ◌∙◌}
use Prim.Native.Nat.{ℕ, ◌+◌}
use native.Mathlib.Omega.{arith}
use lib.ListN.{length, drop_of_length-le}
use lib.Seq.{sets, sets-eq}

pub filled : (numbers l : List ℕ) → length l ≡ length numbers → sets l 0 numbers ≡ numbers
filled numbers l e =
    sets-eq numbers l 0 (omega arith)
    ∙ ap (λ (x : List ℕ). numbers ++ x) (drop_of_length-le l {i = 0 + length numbers} (omega arith))
    ∙ append-nil numbers
