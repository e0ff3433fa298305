-- What is lent, by the refusal that a call returns.
use mathlib.Core.Path.{◌≡◌, ◌∙◌}
use Prim.Native.Nat.{ℕ}
use Rattle.sums.specs.Choice.{unless_refused}
use Rattle.sums.proofs.Choices.{refused-by}

module _ {A : Type 0} {m : ℕ} where
  -- with a refusal it stays
  pub stays : {n : ℕ} (a b : A) → n ≡ m → (n ≡ 0 → ⊥) → b ≡ unless_refused m a (λ k. b)
  stays a b e h = refused-by m a (λ k. b) (λ q. h (e ∙ q))

  -- with none it is what is given
  pub given : {a x : A} (f : ℕ → A) → m ≡ 0 → x ≡ a → x ≡ unless_refused m a f
  given f e h = rw e h
