-- What limits give, refusal by refusal.
use mathlib.Core.Bool.{true, false}
use mathlib.Core.Path.{◌≡◌, refl, sym, ap, ◌∙◌}
use Prim.Native.Nat.{ℕ, zero, suc, ◌≤◌, ◌<◌}
use borrow.Author.Tests.{lt-ltb, le-ltb}
use lib.Dec.{ltb}
use Rattle.sums.proofs.Tables.{first-here, first-later, none-gives-0}
use Rattle.passing.specs.declared.Largest.{Largest}
use Rattle.passing.specs.declared.limits.Limits.{Limits}
use Rattle.passing.specs.Most.{unless_with}
use Rattle.passing.specs.Inner.{refusal_at, top_of, largest_by}

module _ (l : Limits) (x : ℕ) where
  pub refused-by : (n : ℕ) → refusal_at l x ≡ n → (n ≡ 0 → ⊥) → ◌≡◌ {A = Largest} (record { refusal = n; amount = 0 }) (largest_by l x)
  unfolding largest_by
  refused-by n e h = by n h ∙ ap (λ m. unless_with m (top_of l)) (sym e)
    where
      by : (n : ℕ) → (n ≡ 0 → ⊥) → ◌≡◌ {A = Largest} (record { refusal = n; amount = 0 }) (unless_with n (top_of l))
      by zero h = absurd (h refl)
      by (suc n) h = refl

  pub number-first : l.within < x → refusal_at l x ≡ l.number
  unfolding refusal_at
  number-first h = first-here l.number (ltb l.within x) _ (lt-ltb l.within x h)

  pub held_first : x ≤ l.within → l.held ≡ true → refusal_at l x ≡ 17
  unfolding refusal_at
  held_first h e = first-later l.number (ltb l.within x) _ (le-ltb l.within x h) ∙ first-here 17 l.held _ e

  pub spare-first : x ≤ l.within → l.held ≡ false → l.spare < x → refusal_at l x ≡ 12
  unfolding refusal_at
  spare-first h e k =
      first-later l.number (ltb l.within x) _ (le-ltb l.within x h) ∙ first-later 17 l.held _ e ∙ first-here 12 (ltb l.spare x) _ (lt-ltb l.spare x k)

  pub given_by : x ≤ l.within → l.held ≡ false → x ≤ l.spare → ◌≡◌ {A = Largest} (record { refusal = 0; amount = top_of l }) (largest_by l x)
  unfolding largest_by refusal_at
  given_by h e k = sym (ap (λ m. unless_with m (top_of l)) (none-gives-0 _ (le-ltb l.within x h, (e, (le-ltb l.spare x k, tt)))))
