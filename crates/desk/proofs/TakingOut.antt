-- K5 and K8: while an account's mode is on no record but code 12 takes anything out of its collateral. Release and unpledge are refused; no other code
-- lowers an allocated amount or what is pledged.
use mathlib.Core.Bool.{Bool, true, false}
use mathlib.Core.Path.{◌≡◌, refl, sym, ap, ◌∙◌}
use Prim.Native.Nat.{ℕ, ◌≤◌, ◌<◌}
use native.Mathlib.Omega.{arith}
use native.Mathlib.Decide.{ℕ_discrete}
use Rattle.sums.proofs.Choices.{test-clash}
use Rattle.rows.specs.declared.Row.{Row}
use Rattle.rows.specs.declared.Book.{Book}
use Rattle.rows.specs.Rows.{row_at, mode_at, place_of, with_live, with_received, with_margin, plus_kinds, less_kinds}
use Rattle.rows.specs.Facts.{KindsWithin}
use Rattle.dayfile.specs.declared.Record.{Record}
use Rattle.rules.specs.Refusals.{is_opening, named_row, held_by_mode}
use Rattle.rules.specs.Effects.{amended}
use Rattle.rules.specs.Numbered.{placed, verdict_of}
use Rattle.rules.proofs.Passing.{Passes, passes-all}
use Rattle.rules.proofs.Codes.{Code, open_tm, open_client, open_cp, receive, hand_back, allocate, release, pledge, unpledge, margin, retire, set_pledged, set_margin, known-code-cases}
use Rattle.rules.proofs.Amending.{by-receive, by-hand-back, by-allocate, by-pledge, by-margin, by-retire, by-set-margin}
use Rattle.desk.specs.Steps.{step_of}
use Rattle.desk.proofs.Lasting.{refusal-keeps, others-stay}
use Rattle.desk.proofs.Rows.{named-after, open-deemed}

-- each allocated amount and what is pledged is in the second row at least what it is in the first
abbrev NoLess : Row → Row → Type 0
NoLess x y = KindsWithin x.allocated y.allocated × (x.pledged ≤ y.pledged)

alike : (x y : Row) → y.allocated ≡ x.allocated → y.pledged ≡ x.pledged → NoLess x y
alike x y a p = rw (a, p) ((omega arith, omega arith, omega arith, omega arith), omega arith)

same_row : {x y : Row} → y ≡ x → NoLess x y
same_row {x} {y} e = alike x y (ap (λ q. q.allocated) e) (ap (λ q. q.pledged) e)

module _ (b : Book) (r : Record) (n₁₂ : r.code ≡ 12 → ⊥) (on : mode_at b (place_of b r.account) ≡ true) (p : Passes b (placed b r)) where
  abbrev row : Row
  row = named_row b (placed b r)

  -- a release or unpledge would have met 17
  held : held_by_mode (mode_at b (place_of b r.account)) (placed b r) ≡ true → NoLess row (amended row (placed b r))
  held e = test-clash e p.not_held

  amends : is_opening r ≡ false → NoLess row (amended row (placed b r))
  amends o = by (known-code-cases r.code p.good.known)
    where
      by : Code r.code → NoLess row (amended row (placed b r))
      by (open_tm e) = test-clash (rw e) o
      by (open_client e) = test-clash (rw e) o
      by (open_cp e) = test-clash (rw e) o
      by (receive e) = rw (by-receive row (placed b r) e) (alike row (with_received row (plus_kinds row.received (placed b r).kinds)) refl refl)
      by (hand_back e) = rw (by-hand-back row (placed b r) e) (alike row (with_received row (less_kinds row.received (placed b r).kinds)) refl refl)
      by (allocate e) = rw (by-allocate row (placed b r) e) ((omega arith, omega arith, omega arith, omega arith), omega arith)
      by (release e) = held (rw (e, on))
      by (pledge e) = rw (by-pledge row (placed b r) e) ((omega arith, omega arith, omega arith, omega arith), omega arith)
      by (unpledge e) = held (rw (e, on))
      by (margin e) = rw (by-margin row (placed b r) e) (alike row (with_margin row (placed b r).margin) refl refl)
      by (retire e) = rw (by-retire row (placed b r) e) (alike row (with_live row false) refl refl)
      by (set_pledged e) = absurd (n₁₂ e)
      by (set_margin e) = rw (by-set-margin row (placed b r) e) (alike row (with_margin row (placed b r).margin) refl refl)

module _ (b : Book) (r : Record) (n₁₂ : r.code ≡ 12 → ⊥) (i : ℕ) (l : i < b.count) (on : mode_at b i ≡ true) where
  pub nothing-out : KindsWithin (row_at b i).allocated (row_at (step_of b r).book i).allocated × ((row_at b i).pledged ≤ (row_at (step_of b r).book i).pledged)
  nothing-out = by (ℕ_discrete i (place_of b r.account)) (ℕ_discrete (verdict_of b r) 0)
    where
      passing : i ≡ place_of b r.account → verdict_of b r ≡ 0 → (t : Bool) → is_opening r ≡ t → NoLess (row_at b i) (row_at (step_of b r).book i)
      passing e z true o = same_row (open-deemed b r z o i l)
      passing e z false o =
          let out = amends b r n₁₂ (ap (mode_at b) (sym e) ∙ on) (passes-all b (placed b r) z) o in
          rw e (rw (named-after b r z o) out)

      by : Dec (i ≡ place_of b r.account) → Dec (verdict_of b r ≡ 0) → NoLess (row_at b i) (row_at (step_of b r).book i)
      by (no ne) q = same_row (others-stay b r i l ne)
      by (yes e) (yes z) = passing e z (is_opening r) refl
      by (yes e) (no z) = same_row ((refusal-keeps b r (omega arith)).0 i)
