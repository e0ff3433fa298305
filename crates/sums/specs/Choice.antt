-- A choice by a test, and one by a refusal.
use Rattle.std.specs.Prelude.{Bool, true, false, ℕ, zero, suc}

-- a where the test holds, and otherwise b
unfoldable pub pick {ℓ} : {A : Type ℓ} → Bool → A → A → A
pick true a b = a
pick false a b = b

-- a where nothing is refused, and otherwise what the refusal's number comes to
abbrev pub unless_refused {ℓ} : {A : Type ℓ} → ℕ → A → (ℕ → A) → A
unless_refused zero a refused = a
unless_refused (suc n) a refused = refused (suc n)
