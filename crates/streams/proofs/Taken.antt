-- Laws of what was moved: of a write that didn't fail all was taken, and of one that failed in a file nothing counts.
use mathlib.Core.Bool.{true, false, false≢true}
use mathlib.Core.Path.{◌≡◌, refl, sym, ap, ◌∙◌}
use Prim.Native.Nat.{ℕ, ◌≤◌}
use native.Mathlib.Omega.{arith}
use lib.Dec.{ltb}
use Rattle.std.specs.Prelude.{Result, Ok, Err}
use borrow.Author.Tests.{ltb-false}
use Rattle.sums.specs.Choice.{pick}
use Rattle.streams.specs.declared.Moved.{Moved}
use Rattle.streams.specs.Calls.{moved_by, nothing_moved, no_bytes as empty, and_then}

pub all-taken : (m : Moved) (n : ℕ) → m.count ≤ n → m.failed ≡ ltb m.count n → m.failed ≡ false → m.count ≡ n
all-taken m n h e f = omega (arith, ltb-false m.count n (sym e ∙ f))

-- the same of a text by its length's other name
pub taken_of : (m : Moved) (n k : ℕ) → n ≡ k → m.count ≤ n → m.failed ≡ ltb m.count n → (m.count ≤ k) × (m.failed ≡ ltb m.count k)
taken_of m n k e h f = rw (← e) (h, f)

-- a call that failed moved nothing
pub none-where-failed : {E : Type 0} (m : Moved) (answer : Result ℕ E) (n : ℕ) → m ≡ moved_by answer n → (m.count ≤ n) × (m.failed ≡ true → m.count ≡ 0)
unfolding moved_by
none-where-failed m (Ok k) n e = rw e (omega arith, λ t. absurd (false≢true t))
none-where-failed m (Err k) n e = rw e (omega arith, λ t. refl)

module _ {m : Moved} (e : m ≡ nothing_moved) where
  pub no_bytes : (n : ℕ) → m.count ≡ pick m.failed 0 n
  unfolding pick
  no_bytes n = rw e

  pub nothing-came : (n : ℕ) → (m.count ≤ n) × (m.failed ≡ true → m.count ≡ 0)
  nothing-came n = rw e (omega arith, λ _. refl)

  pub it-failed : {A : Type 0} → m.failed ≡ false → A
  it-failed f = absurd (false≢true (sym f ∙ ap (λ (x : Moved). x.failed) e))

-- of a file that isn't there
pub none_came : {m : Moved} → m ≡ empty → (n : ℕ) → (m.count ≤ n) × (m.failed ≡ true → m.count ≡ 0)
none_came e n = rw e (omega arith, λ _. refl)

pub whole : (m : Moved) (n : ℕ) → m.failed ≡ false → m.count ≡ n → m.count ≡ pick m.failed 0 n
unfolding pick
whole m n f h = rw f h

-- and with the call behind it
pub still-whole : {T E : Type 0} (m r : Moved) (answer : Result T E) (n : ℕ) → r ≡ and_then m answer → m.count ≡ pick m.failed 0 n → r.count ≡ pick r.failed 0 n
unfolding pick and_then
still-whole m r (Ok k) n e h = rw e h
still-whole m r (Err k) n e h = rw e
