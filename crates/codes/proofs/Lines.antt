-- Each code's own lines are all that is left of the table past 7.
use mathlib.Core.Bool.{Bool, true, false, not, ◌||◌}
use mathlib.Core.List.{[], ◌∷◌, ◌++◌}
use mathlib.Core.Logic.{◌⊎◌, inl, inr}
use mathlib.Core.Path.{◌≡◌, refl, ap, ◌∙◌}
use Prim.Native.Nat.{ℕ}
use lib.Dec.{eqb}
use borrow.Author.Tests.{eq-eqb}
use Rattle.sums.specs.Choice.{pick}
use Rattle.sums.specs.Table.{◌when◌, first}
use Rattle.sums.proofs.Tables.{first-later}
use Rattle.rows.specs.declared.Row.{Row}
use Rattle.dayfile.specs.declared.Record.{Record}
use Rattle.dayfile.specs.Records.{faults, fault_of}
use Rattle.dayfile.proofs.Good.{past-faults}
use Rattle.rules.specs.declared.Beside.{Beside}
use Rattle.rules.specs.Refusals.{is_opening, from8}
use Rattle.codes.specs.Own.{early_number, open_lines, receive_lines, left_lines, release_lines, pledge_lines, unpledge_lines, margin_lines, retire_lines}

-- with the serial that is due and no fault, only 7 is left before 8
pub only-seven : (alive : Bool) (serial : ℕ) (r : Record) → r.serial ≡ serial → fault_of r ≡ 0 → early_number alive serial r ≡ pick alive 0 7
unfolding early_number first pick
only-seven alive serial r es ef =
    first-later 3 (not (eqb r.serial serial)) (faults r ++ ((7 when not alive) ∷ [])) (ap not (eq-eqb r.serial serial es))
    ∙ past-faults r ((7 when not alive) ∷ []) ef ∙ seven alive
  where
    seven : (t : Bool) → first ((7 when not t) ∷ []) ≡ pick t 0 7
    seven true = refl
    seven false = refl

-- the record with its code written out
abbrev coded : Record → ℕ → Record
coded r k = record { serial = r.serial; code = k; named = r.named; account = r.account; kinds = r.kinds; pledged = r.pledged; margin = r.margin }

or-false : (t : Bool) → (t || false) ≡ t
or-false true = refl
or-false false = refl

module _ (row : Row) (count next : ℕ) (beside : Beside) (r : Record) where
  -- THE LAW: each line's test begins with its codes, so the code decides which lines are left
  own : (k : ℕ) → r.code ≡ k → first (from8 row count next beside r) ≡ first (from8 row count next beside (coded r k))
  own k e = ap (λ n. first (from8 row count next beside (coded r n))) e

  pub receive-own : r.code ≡ 4 → first (from8 row count next beside r) ≡ first (receive_lines row r.kinds)
  unfolding first pick
  receive-own e = own 4 e ∙ simp or-false

  pub left-own : (r.code ≡ 5) ⊎ (r.code ≡ 6) → first (from8 row count next beside r) ≡ first (left_lines row r.kinds)
  unfolding first pick
  left-own (inl e) = own 5 e ∙ simp or-false
  left-own (inr e) = own 6 e ∙ simp or-false

  pub release-own : r.code ≡ 7 → first (from8 row count next beside r) ≡ first (release_lines row beside.mode beside.below r.kinds)
  unfolding first pick
  release-own e = own 7 e ∙ simp or-false

  pub pledge-own : r.code ≡ 8 → first (from8 row count next beside r) ≡ first (pledge_lines row r.pledged)
  unfolding first pick
  pledge-own e = own 8 e

  pub unpledge-own : r.code ≡ 9 → first (from8 row count next beside r) ≡ first (unpledge_lines row beside.mode beside.below r.pledged)
  unfolding first pick
  unpledge-own e = own 9 e

  pub margin-own : r.code ≡ 10 → first (from8 row count next beside r) ≡ first (margin_lines row r.margin beside.passes)
  unfolding first pick
  margin-own e = own 10 e

  pub none-own : (r.code ≡ 12) ⊎ (r.code ≡ 13) → first (from8 row count next beside r) ≡ first []
  unfolding first pick
  none-own (inl e) = own 12 e
  none-own (inr e) = own 13 e

  pub retire-own : r.code ≡ 11 → first (from8 row count next beside r) ≡ first (retire_lines row r.account beside.client)
  unfolding first pick
  retire-own e = own 11 e

  pub open_own : (r.code ≡ 1) ⊎ ((r.code ≡ 2) ⊎ (r.code ≡ 3)) → first (from8 row count next beside r) ≡ first (open_lines row r.code count next)
  unfolding first pick
  open_own (inl e) = own 1 e ∙ rw e (simp or-false)
  open_own (inr (inl e)) = own 2 e ∙ rw e (simp or-false)
  open_own (inr (inr e)) = own 3 e ∙ rw e (simp or-false)

  -- a record that is no opening doesn't look at the next number
  pub next-aside : is_opening r ≡ false → (n : ℕ) → first (from8 row count n beside r) ≡ first (from8 row count next beside r)
  next-aside e n = rw e refl
