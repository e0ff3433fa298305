-- K7's haircut the other way round: the least face value that counts for so much.
use Prim.Native.Nat.{ℕ, ◌≤◌}
use native.Mathlib.Omega.{arith}
use Rattle.rows.specs.declared.Rule.TheVariants.{New}
use Rattle.rows.specs.Rows.{counted}
use Rattle.passing.specs.Inner.{face_for}

-- THE LAW: a face value counts for at least so much exactly where it is at least that
pub face-enough : (worth face : ℕ) → face_for worth ≤ face → worth ≤ counted New face
unfolding counted
face-enough worth face h = omega arith

pub face-least : (worth face : ℕ) → worth ≤ counted New face → face_for worth ≤ face
unfolding counted
face-least worth face h = omega arith
