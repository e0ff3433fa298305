-- A signed number is held by its bits, and reads back.
use Rattle.std.proofs.Common.{◌≡◌, ap, ◌∙◌}
use lib.IntN.{ℤ}
use mir.Syntax.{w32}
use mir.Val.{SFits, of_z, to_z}
use mir.ValLaws.{to_z-of_z}

-- two numbers read back
pub read_back : {A : Type 0} (f : ℤ → ℤ → A) (a b : ℤ) → SFits w32 a → SFits w32 b → f (to_z w32 (of_z w32 a)) (to_z w32 (of_z w32 b)) ≡ f a b
read_back f a b p q = ap (λ x. f x (to_z w32 (of_z w32 b))) (to_z-of_z w32 a p) ∙ ap (f a) (to_z-of_z w32 b q)
