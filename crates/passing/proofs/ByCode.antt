-- A code's limits.
use mathlib.Core.Bool.{Bool}
use mathlib.Core.Path.{◌≡◌, sym, ap, ◌∙◌}
use Prim.Native.Nat.{ℕ}
use borrow.Author.Tests.{ne_eqb}
use Rattle.sums.specs.Choice.{pick}
use Rattle.rows.specs.declared.Row.{Row}
use Rattle.rows.specs.Rows.{ceiling}
use Rattle.passing.specs.declared.limits.Limits.{Limits}
use Rattle.passing.specs.Inner.{up_to, limits_of}

module _ (code named : ℕ) (row : Row) (on : Bool) (spare raised : ℕ) where
  -- the limits of a code that is written out
  pub of_code : (k : ℕ) → code ≡ k → {l : Limits} → l ≡ limits_of k named row on spare raised → l ≡ limits_of code named row on spare raised
  of_code k e h = h ∙ ap (λ c. limits_of c named row on spare raised) (sym e)

  pub of_other : (code ≡ 4 → ⊥) → (code ≡ 5 → ⊥) → (code ≡ 6 → ⊥) → (code ≡ 7 → ⊥) → (code ≡ 8 → ⊥) → (code ≡ 9 → ⊥) → (code ≡ 10 → ⊥)
      → up_to 13 ceiling ≡ limits_of code named row on spare raised
  unfolding pick
  of_other n4 n5 n6 n7 n8 n9 n10 = rw (ne_eqb code 4 n4, ne_eqb code 5 n5, ne_eqb code 6 n6, ne_eqb code 7 n7, ne_eqb code 8 n8, ne_eqb code 9 n9, ne_eqb code 10 n10)
