-- `text::put_sort` meets its contract.
use mathlib.Core.List.{[], ◌∷◌}
use mathlib.Core.Path.{◌≡◌, refl}
use Prim.Native.Nat.{ℕ, zero, suc}
use native.Mathlib.Omega.{arith}
use Rattle.text.specs.Words.{sort_word}
use Rattle.text.proofs.put_sort.Goals as goal

others : (sort : ℕ) → (sort ≡ 0 → ⊥) → (sort ≡ 1 → ⊥) → (sort ≡ 2 → ⊥) → sort_word sort ≡ 99 ∷ 112 ∷ []
others zero a b d = absurd (a refl)
others (suc zero) a b d = absurd (b refl)
others (suc (suc zero)) a b d = absurd (d refl)
others (suc (suc (suc sort))) a b d = refl

pub returns-in-0 : goal.returns-in-0
returns-in-0 c = record { puts = rw c.in-0.is c.put_text.ensures; upper_bound = omega (arith, c.put_text.ensures.next) }

pub returns-in-1 : goal.returns-in-1
returns-in-1 c = record { puts = rw c.in-1.is c.put_text-in-1.ensures; upper_bound = omega (arith, c.put_text-in-1.ensures.next) }

pub returns-in-2 : goal.returns-in-2
returns-in-2 c = record { puts = rw c.in-2.is c.put_text-in-2.ensures; upper_bound = omega (arith, c.put_text-in-2.ensures.next) }

pub returns-in_default : goal.returns-in_default
returns-in_default c =
    let r = c.in_default.in_default-own.rest in
    record { puts = rw (others _ r.0.0.1 r.0.1 r.1) c.put_text-in_default.ensures; upper_bound = omega (arith, c.put_text-in_default.ensures.next) }
