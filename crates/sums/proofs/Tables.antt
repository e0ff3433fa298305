-- The number that a table gives: exactly when its test holds and no earlier one does.
use mathlib.Core.Bool.{Bool, true, false, not, ◌&&◌}
use mathlib.Core.List.{List, [], ◌∷◌, ◌++◌}
use mathlib.Core.Path.{◌≡◌, refl, sym, ap, ◌∙◌}
use mathlib.Core.Logic.{◌⊎◌, inl, inr}
use Prim.Native.Nat.{ℕ, ◌≤◌, ◌<◌}
use native.Mathlib.Decide.{ℕ_discrete}
use native.Mathlib.Omega.{arith}
use lib.Dec.{eqb}
use borrow.Author.Tests.{eq-eqb}
use Rattle.sums.specs.Choice.{pick}
use Rattle.sums.specs.Table.{Line, ◌when◌, first, Given, here, later, NoneHolds}
use Rattle.sums.proofs.Choices.{pick_yes, pick_no, and_split, test-clash}

-- the first line decides where its test holds, and otherwise the rest does
pub first-here : (n : ℕ) (t : Bool) (rest : List Line) → t ≡ true → first ((n when t) ∷ rest) ≡ n
unfolding first
first-here n t rest e = pick_yes t _ _ e

pub first-later : (n : ℕ) (t : Bool) (rest : List Line) → t ≡ false → first ((n when t) ∷ rest) ≡ first rest
unfolding first
first-later n t rest e = pick_no t _ _ e

pub given-first : {k : ℕ} {table : List Line} → Given k table → first table ≡ k
unfolding first
given-first (here {t} e) = pick_yes t _ _ e
given-first (later {l} e g) = pick_no l.test _ _ e ∙ given-first g

-- a number other than 0 that is given is given by a line of the table
pub first-given : (table : List Line) (k : ℕ) → 0 < k → first table ≡ k → Given k table
unfolding first pick
first-given [] k p e = absurd (omega arith)
first-given (l ∷ rest) k p e = by l.test refl e (λ q. first-given rest k p q)
  where
    by : (t : Bool) → l.test ≡ t → pick t l.number (first rest) ≡ k → (first rest ≡ k → Given k rest) → Given k (l ∷ rest)
    by true q f r = rw (← f) (here q)
    by false q f r = later q (r f)

-- two tables one after the other: the first one's number where it gives one, and otherwise the second one's
pub first_some : (a b : List Line) → (first a ≡ 0 → ⊥) → first (a ++ b) ≡ first a
unfolding first pick
first_some [] b h = absurd (h refl)
first_some (l ∷ rest) b h = by l.test h (λ q. first_some rest b q)
  where
    by : (t : Bool) → (pick t l.number (first rest) ≡ 0 → ⊥) → ((first rest ≡ 0 → ⊥) → first (rest ++ b) ≡ first rest)
        → pick t l.number (first (rest ++ b)) ≡ pick t l.number (first rest)
    by true q r = refl
    by false q r = r q

-- the table's numbers are k or more
abbrev pub From : ℕ → List Line → Type 0
From k [] = Unit
From k (l ∷ rest) = (k ≤ l.number) × From k rest

-- no line has the number 0
abbrev pub Numbered : List Line → Type 0
Numbered = From 1

pub first-from : (k : ℕ) (table : List Line) → From k table → (first table ≡ 0) ⊎ (k ≤ first table)
unfolding first pick
first-from k [] f = inl refl
first-from k (l ∷ rest) f = by l.test (first-from k rest f.1)
  where
    by : (t : Bool) → (first rest ≡ 0) ⊎ (k ≤ first rest)
        → (pick t l.number (first rest) ≡ 0) ⊎ (k ≤ pick t l.number (first rest))
    by true q = inr f.0
    by false q = q

pub first-none : (a b : List Line) → Numbered a → first a ≡ 0 → first (a ++ b) ≡ first b
unfolding first pick
first-none [] b n h = refl
first-none (l ∷ rest) b n h = by l.test h (λ q. first-none rest b n.1 q)
  where
    by : (t : Bool) → pick t l.number (first rest) ≡ 0 → (first rest ≡ 0 → first (rest ++ b) ≡ first b)
        → pick t l.number (first (rest ++ b)) ≡ first b
    by true q r = absurd (omega (arith, n.0))
    by false q r = r q

-- where a table gives nothing, its first test fails and the rest gives nothing
pub first-fails : (n : ℕ) (t : Bool) (rest : List Line) → 0 < n → first ((n when t) ∷ rest) ≡ 0 → (t ≡ false) × (first rest ≡ 0)
unfolding first pick
first-fails n true rest p e = absurd (omega arith)
first-fails n false rest p e = (refl, e)

-- two tables that agree up to a line, and beyond it where its test fails
pub first_on : (n : ℕ) (t : Bool) (a b : List Line) → (t ≡ false → first a ≡ first b) → first ((n when t) ∷ a) ≡ first ((n when t) ∷ b)
unfolding first pick
first_on n true a b h = refl
first_on n false a b h = h refl

pub first-beyond : (a b c : List Line) → Numbered a → (first a ≡ 0 → first b ≡ first c) → first (a ++ b) ≡ first (a ++ c)
first-beyond a b c n h = by (ℕ_discrete (first a) 0)
  where
    by : Dec (first a ≡ 0) → first (a ++ b) ≡ first (a ++ c)
    by (yes e) = first-none a b n e ∙ h e ∙ sym (first-none a c n e)
    by (no e) = first_some a b e ∙ sym (first_some a c e)

-- two tables of which neither gives a number
pub first-clear : (a b : List Line) → first (a ++ b) ≡ 0 → first a ≡ 0
first-clear a b e = by (ℕ_discrete (first a) 0)
  where
    by : Dec (first a ≡ 0) → first a ≡ 0
    by (yes q) = q
    by (no q) = sym (first_some a b q) ∙ e

-- a table gives 0 exactly when no test holds
pub none-gives-0 : (table : List Line) → NoneHolds table → first table ≡ 0
unfolding first
none-gives-0 [] h = refl
none-gives-0 (l ∷ rest) h = pick_no l.test _ _ h.0 ∙ none-gives-0 rest h.1

pub gives-0-none : (table : List Line) → Numbered table → first table ≡ 0 → NoneHolds table
gives-0-none [] n e = tt
gives-0-none (l ∷ rest) n e = let f = first-fails l.number l.test rest n.0 e in (f.0, gives-0-none rest n.1 f.1)

-- a table all of whose numbers pass a test, as 0 does, gives one that passes it
abbrev pub all_pass : (ℕ → Bool) → List Line → Bool
all_pass p [] = p 0
all_pass p (l ∷ rest) = p l.number && all_pass p rest

pub first_passes : (p : ℕ → Bool) (table : List Line) → all_pass p table ≡ true → p (first table) ≡ true
unfolding first pick
first_passes p [] h = h
first_passes p (l ∷ rest) h = let s = and_split (p l.number) (all_pass p rest) h in by l.test s.0 (first_passes p rest s.1)
  where
    by : (t : Bool) → p l.number ≡ true → p (first rest) ≡ true → p (pick t l.number (first rest)) ≡ true
    by true x y = x
    by false x y = y

-- two tables that differ in one line's test alone give the same number where neither gives that line's
pub first-but : (k : ℕ) (xs ys : List Line) → Numbered xs → (s t : Bool) → (first (xs ++ ((k when s) ∷ ys)) ≡ k → ⊥) → (first (xs ++ ((k when t) ∷ ys)) ≡ k → ⊥)
    → first (xs ++ ((k when s) ∷ ys)) ≡ first (xs ++ ((k when t) ∷ ys))
first-but k xs ys n s t p q = by (ℕ_discrete (first xs) 0)
  where
    clear : first xs ≡ 0 → (t : Bool) → first (xs ++ ((k when t) ∷ ys)) ≡ first ((k when t) ∷ ys)
    clear e t = first-none xs _ n e

    fails : first xs ≡ 0 → (t : Bool) → (first (xs ++ ((k when t) ∷ ys)) ≡ k → ⊥) → first (xs ++ ((k when t) ∷ ys)) ≡ first ys
    fails e true h = absurd (h (clear e true ∙ first-here k true ys refl))
    fails e false h = clear e false ∙ first-later k false ys refl

    by : Dec (first xs ≡ 0) → first (xs ++ ((k when s) ∷ ys)) ≡ first (xs ++ ((k when t) ∷ ys))
    by (yes e) = fails e s p ∙ sym (fails e t q)
    by (no e) = first_some xs _ e ∙ sym (first_some xs _ e)

-- a number that stands in one line of a table alone is given only where that line's test holds
pub first-names : (k : ℕ) (xs ys : List Line) → Numbered xs → all_pass (λ n. not (eqb n k)) xs ≡ true → all_pass (λ n. not (eqb n k)) ys ≡ true
    → (t : Bool) → first (xs ++ ((k when t) ∷ ys)) ≡ k → t ≡ true
first-names k xs ys n p q true e = refl
first-names k xs ys n p q false e = absurd (by (ℕ_discrete (first xs) 0))
  where
    never : (table : List Line) → all_pass (λ n. not (eqb n k)) table ≡ true → first table ≡ k → ⊥
    never table h z = test-clash (first_passes (λ n. not (eqb n k)) table h) (ap (λ n. not (eqb n k)) z ∙ ap not (eq-eqb k k refl))

    by : Dec (first xs ≡ 0) → ⊥
    by (yes z) = never ys q (sym (first-none xs _ n z ∙ first-later k false ys refl) ∙ e)
    by (no z) = never xs p (sym (first_some xs _ z) ∙ e)
