-- The laws behind ExtremeLoss and Obligations: what K9's and K10's choice comes to, by its table and by the first position at fault.
use mathlib.Core.Bool.{Bool, true, false}
use mathlib.Core.List.{List, [], ◌∷◌, ◌++◌}
use mathlib.Core.Logic.{◌⊎◌, inl, inr}
use mathlib.Core.Path.{◌≡◌, refl, sym, ap, ◌∙◌}
use Prim.Native.Nat.{ℕ, zero, suc, ◌≤◌, ◌<◌}
use native.Mathlib.Decide.{ℕ_discrete}
use native.Mathlib.Omega.{arith}
use lib.ListN.{length}
use Rattle.sums.specs.Choice.{pick, unless_refused}
use Rattle.sums.specs.Table.{Line, ◌when◌, first}
use Rattle.sums.proofs.Choices.{refused-by}
use Rattle.sums.proofs.Tables.{From, Numbered, first_some, first-none, first-from}
use Rattle.dayfile.specs.declared.Record.{Record}
use Rattle.currency.specs.declared.Position.{Position}
use Rattle.currency.specs.declared.Made.TheVariants.{Given, Refused}
use Rattle.currency.specs.Charges.{faults, fault_of, first_fault}
use Rattle.currency.proofs.Faultless.{fault-first, fault_past}
use Rattle.exposure.proofs.Joining.{fault-most}
use Rattle.promises.specs.Positions.{position_at, FirstAtFault, NoneAtFault, position_lines}

-- a record is given exactly where there is no refusal
pub given-at-0 : (n : ℕ) (r : Record) → (unless_refused n (Given r) Refused ≡ Given r → n ≡ 0) × (n ≡ 0 → unless_refused n (Given r) Refused ≡ Given r)
given-at-0 zero r = ((λ e. refl), (λ e. refl))
given-at-0 (suc n) r = ((λ e. let z : ◌≡◌ {A = ℕ} 0 1 = cc in absurd (omega arith)), (λ e. absurd (omega arith)))

-- ---- the first fault, by place

pub first-at-fault : (l : List Position) (n : ℕ) → 0 < n → first_fault l ≡ n → FirstAtFault l n
unfolding first_fault
first-at-fault [] n h e = absurd (omega arith)
first-at-fault (p ∷ rest) n h e = by (ℕ_discrete (fault_of p) 0) (λ q. first-at-fault rest n h q)
  where
    by : Dec (fault_of p ≡ 0) → (first_fault rest ≡ n → FirstAtFault rest n) → FirstAtFault (p ∷ rest) n
    by (no q) go = record { place = 0; inside = omega arith; fault = sym (fault-first p rest q) ∙ e; before = λ i k. absurd (omega arith) }
    by (yes q) go =
        let f = go (sym (fault_past p rest q) ∙ e) in
        record { place = suc f.place; inside = omega (arith, f.inside); fault = f.fault; before = earlier f.place f.before }
      where
        earlier : (k : ℕ) → ((i : ℕ) → i < k → fault_of (position_at rest i) ≡ 0) → (i : ℕ) → i < suc k → fault_of (position_at (p ∷ rest) i) ≡ 0
        earlier k h zero l = q
        earlier k h (suc i) l = h i (omega arith)

at_place : (l : List Position) (n place : ℕ) → 0 < n → place < length l → fault_of (position_at l place) ≡ n → ((i : ℕ) → i < place → fault_of (position_at l i) ≡ 0) → first_fault l ≡ n
at_place [] n place h k e before = absurd (omega arith)
at_place (p ∷ rest) n zero h k e before = fault-first p rest (λ q. absurd (omega arith)) ∙ e
at_place (p ∷ rest) n (suc place) h k e before =
    fault_past p rest (before 0 (omega arith)) ∙ at_place rest n place h (omega arith) e (λ i m. before (suc i) (omega arith))

pub fault-there : (l : List Position) (n : ℕ) → 0 < n → FirstAtFault l n → first_fault l ≡ n
fault-there l n h f = at_place l n f.place h f.inside f.fault f.before

pub none-there : (l : List Position) → first_fault l ≡ 0 → NoneAtFault l
unfolding first_fault
none-there [] e = λ i k. absurd (omega arith)
none-there (p ∷ rest) e = by (ℕ_discrete (fault_of p) 0) (λ q. none-there rest q)
  where
    by : Dec (fault_of p ≡ 0) → (first_fault rest ≡ 0 → NoneAtFault rest) → NoneAtFault (p ∷ rest)
    by (no q) go i k = absurd (q (sym (fault-first p rest q) ∙ e))
    by (yes q) go zero k = q
    by (yes q) go (suc i) k = go (sym (fault_past p rest q) ∙ e) i (omega arith)

pub there-none : (l : List Position) → NoneAtFault l → first_fault l ≡ 0
unfolding first_fault
there-none [] h = refl
there-none (p ∷ rest) h = fault_past p rest (h 0 (omega arith)) ∙ there-none rest (λ i k. h (suc i) (omega arith))

-- ---- the choice: 15, the first fault, the last lines

abbrev pub chosen : Bool → List Position → List Line → ℕ
chosen many l last = pick many 15 (unless_refused (first_fault l) (first last) (λ n. n))

faults-numbered : (p : Position) → Numbered (faults p)
faults-numbered p = (omega arith, (omega arith, (omega arith, tt)))

-- it is the table's number
past-many : (l : List Position) (last : List Line) → unless_refused (first_fault l) (first last) (λ n. n) ≡ first (position_lines l ++ last)
unfolding first_fault fault_of
past-many [] last = refl
past-many (p ∷ rest) last = by (ℕ_discrete (fault_of p) 0) (past-many rest last)
  where
    by : Dec (fault_of p ≡ 0) → unless_refused (first_fault rest) (first last) (λ n. n) ≡ first (position_lines rest ++ last)
        → unless_refused (first_fault (p ∷ rest)) (first last) (λ n. n) ≡ first (faults p ++ (position_lines rest ++ last))
    by (yes q) go =
        ap (λ k. unless_refused k (first last) (λ n. n)) (fault_past p rest q)
        ∙ go ∙ sym (first-none (faults p) (position_lines rest ++ last) (faults-numbered p) q)
    by (no q) go =
        ap (λ k. unless_refused k (first last) (λ n. n)) (fault-first p rest q)
        ∙ sym (refused-by (fault_of p) (first last) (λ n. n) q) ∙ sym (first_some (faults p) (position_lines rest ++ last) q)

pub by-table : (many : Bool) (l : List Position) (last : List Line) → chosen many l last ≡ first ((15 when many) ∷ (position_lines l ++ last))
unfolding first
by-table many l last = ap (pick many 15) (past-many l last)

-- by the first fault: a number of it, or one of the last lines where there is none
pub by-fault : (many : Bool) (l : List Position) (last : List Line) (n : ℕ) → 0 < n → (n ≡ 15 → ⊥) → chosen many l last ≡ n
    → (many ≡ false) × (FirstAtFault l n ⊎ (NoneAtFault l × (first last ≡ n)))
unfolding pick
by-fault true l last n h o e = absurd (o (sym e))
by-fault false l last n h o e = (refl, by (first_fault l) refl e)
  where
    by : (k : ℕ) → first_fault l ≡ k → unless_refused k (first last) (λ n. n) ≡ n → FirstAtFault l n ⊎ (NoneAtFault l × (first last ≡ n))
    by zero q g = inr (none-there l q, g)
    by (suc k) q g = inl (first-at-fault l n h (q ∙ g))

pub fault-chosen : (many : Bool) (l : List Position) (last : List Line) (n : ℕ) → 0 < n → many ≡ false → FirstAtFault l n → chosen many l last ≡ n
unfolding pick
fault-chosen many l last n h e f = rw (e, fault-there l n h f) (sym (refused-by n (first last) (λ k. k) (λ q. absurd (omega arith))))

pub last-chosen : (many : Bool) (l : List Position) (last : List Line) → many ≡ false → NoneAtFault l → chosen many l last ≡ first last
unfolding pick
last-chosen many l last e f = rw (e, there-none l f)

-- ---- by number: the last lines have none below 20, and the positions' begin at 18

from-18 : (l : List Position) (last : List Line) → From 18 last → From 18 (position_lines l ++ last)
from-18 [] last f = f
from-18 (p ∷ rest) last f = (omega arith, (omega arith, (omega arith, from-18 rest last f)))

module _ (many : Bool) (l : List Position) (last : List Line) where
  pub by-15 : From 18 last → chosen many l last ≡ 15 → many ≡ true
  unfolding pick
  by-15 f = by many
    where
      by : (t : Bool) → chosen t l last ≡ 15 → t ≡ true
      by true e = refl
      by false e = absurd (none (first-from 18 (position_lines l ++ last) (from-18 l last f)))
        where
          is : first (position_lines l ++ last) ≡ 15
          is = sym (past-many l last) ∙ e

          none : (first (position_lines l ++ last) ≡ 0) ⊎ (18 ≤ first (position_lines l ++ last)) → ⊥
          none (inl q) = omega (arith, is)
          none (inr q) = omega (arith, is)

  pub chosen-15 : many ≡ true → chosen many l last ≡ 15
  unfolding pick
  chosen-15 e = rw e

  pub by-fault-alone : From 20 last → (n : ℕ) → 15 < n → n < 20 → chosen many l last ≡ n → (many ≡ false) × FirstAtFault l n
  by-fault-alone f n h k e = let c = by-fault many l last n (omega arith) (λ q. absurd (omega arith)) e in (c.0, by c.1 (first-from 20 last f))
    where
      by : FirstAtFault l n ⊎ (NoneAtFault l × (first last ≡ n)) → (first last ≡ 0) ⊎ (20 ≤ first last) → FirstAtFault l n
      by (inl q) g = q
      by (inr q) (inl g) = absurd (omega (arith, q.1))
      by (inr q) (inr g) = absurd (omega (arith, q.1))

  pub by-last-alone : (n : ℕ) → 20 < n → chosen many l last ≡ n → (many ≡ false) × NoneAtFault l × (first last ≡ n)
  by-last-alone n h e = let c = by-fault many l last n (omega arith) (λ q. absurd (omega arith)) e in by c.0 c.1
    where
      by : many ≡ false → FirstAtFault l n ⊎ (NoneAtFault l × (first last ≡ n)) → (many ≡ false) × NoneAtFault l × (first last ≡ n)
      by m (inl q) = absurd (omega (arith, q.fault, fault-most (position_at l q.place)))
      by m (inr q) = (m, q.0, q.1)

  pub by-0 : chosen many l last ≡ 0 → (many ≡ false) × NoneAtFault l × (first last ≡ 0)
  unfolding pick
  by-0 = by many (first_fault l) refl
    where
      by : (t : Bool) (k : ℕ) → first_fault l ≡ k → pick t 15 (unless_refused k (first last) (λ n. n)) ≡ 0 → (t ≡ false) × NoneAtFault l × (first last ≡ 0)
      by true k q e = absurd (omega arith)
      by false zero q e = (refl, none-there l q, e)
      by false (suc k) q e = absurd (omega arith)
