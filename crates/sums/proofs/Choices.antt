-- Laws of a choice by a test or by a refusal, and of tests joined.
use mathlib.Core.Bool.{Bool, true, false, ◌&&◌, ◌||◌, false≢true}
use mathlib.Core.Logic.{◌⊎◌, inl, inr}
use mathlib.Core.Path.{◌≡◌, refl, sym, ◌∙◌}
use Prim.Native.Nat.{ℕ, zero, suc}
use Rattle.sums.specs.Choice.{pick, unless_refused}

module _ {A : Type 0} where
  pub pick_yes : (t : Bool) (a b : A) → t ≡ true → pick t a b ≡ a
  unfolding pick
  pick_yes true a b e = refl
  pick_yes false a b e = absurd (false≢true e)

  pub pick_no : (t : Bool) (a b : A) → t ≡ false → pick t a b ≡ b
  unfolding pick
  pick_no true a b e = absurd (false≢true (sym e))
  pick_no false a b e = refl

  -- what a return shows: the choice goes to the first, or to the second
  pub pick_first : {t : Bool} {w a : A} (b : A) → t ≡ true → w ≡ a → w ≡ pick t a b
  unfolding pick
  pick_first b e h = rw e h

  pub pick_second : {t : Bool} {w b : A} (a : A) → t ≡ false → w ≡ b → w ≡ pick t a b
  unfolding pick
  pick_second a e h = rw e h

  -- a refusal's number decides
  pub refused-by : (n : ℕ) (a : A) (f : ℕ → A) → (n ≡ 0 → ⊥) → f n ≡ unless_refused n a f
  refused-by zero a f h = absurd (h refl)
  refused-by (suc n) a f h = refl

-- a test does not both hold and fail
pub test-clash : {t : Bool} {A : Type 0} → t ≡ true → t ≡ false → A
test-clash p q = absurd (false≢true (sym q ∙ p))

pub and_split : (a b : Bool) → (a && b) ≡ true → (a ≡ true) × (b ≡ true)
and_split true b e = (refl, e)
and_split false b e = absurd (false≢true e)

pub and_left : (a b : Bool) → (a && b) ≡ true → a ≡ true
and_left a b e = (and_split a b e).0

pub and_right : (a b : Bool) → (a && b) ≡ true → b ≡ true
and_right a b e = (and_split a b e).1

pub and-join : {a b : Bool} → a ≡ true → b ≡ true → (a && b) ≡ true
and-join {a} {b} p q = rw p q

pub and-left-fails : (a b : Bool) → a ≡ false → (a && b) ≡ false
and-left-fails a b e = rw e

pub and-right-fails : (a b : Bool) → b ≡ false → (a && b) ≡ false
and-right-fails true b e = e
and-right-fails false b e = refl

-- b fails where a holds
pub and-fails : {a b : Bool} → a ≡ true → (a && b) ≡ false → b ≡ false
and-fails e h = rw e at h

pub or_split : (a b : Bool) → (a || b) ≡ true → (a ≡ true) ⊎ (b ≡ true)
or_split true b e = inl refl
or_split false b e = inr e

-- b holds wherever a fails
pub or_else : (a b : Bool) → (a || b) ≡ true → a ≡ false → b ≡ true
or_else true b e q = absurd (false≢true (sym q))
or_else false b e q = e

pub or_from : (a b : Bool) → (a ≡ false → b ≡ true) → (a || b) ≡ true
or_from true b h = refl
or_from false b h = h refl

pub or_left : {a : Bool} (b : Bool) → a ≡ true → (a || b) ≡ true
or_left {a} b p = rw p

pub or_right : (a : Bool) {b : Bool} → b ≡ true → (a || b) ≡ true
or_right a p = or_from a _ (λ q. p)

pub or-fails : (a b : Bool) → (a || b) ≡ false → (a ≡ false) × (b ≡ false)
or-fails true b e = absurd (false≢true (sym e))
or-fails false b e = (refl, e)

-- what follows a test counts only where the test holds
pub and_same : (t : Bool) {x y : Bool} → (t ≡ true → x ≡ y) → (t && x) ≡ (t && y)
and_same true h = h refl
and_same false h = refl
