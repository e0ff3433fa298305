-- K8: of a record that passes only codes 12 and 13 can raise the shortfall. A rising margin under code 10 leaves none, and every other code leaves collateral at least what was blocked of
-- it and raises no margin.
use mathlib.Core.Bool.{Bool, true, false, ◌&&◌, ◌||◌}
use mathlib.Core.Logic.{◌⊎◌, inl, inr}
use mathlib.Core.Path.{◌≡◌, refl, sym, ap, subst, ◌∙◌}
use Prim.Native.Nat.{ℕ, ◌+◌, ◌-◌, ◌≤◌}
use native.Mathlib.Omega.{arith}
use lib.Dec.{leb, ltb, eqb}
use borrow.Author.Tests.{ltb-false, eq-eqb}
use Rattle.sums.specs.Choice.{pick}
use Rattle.sums.proofs.Choices.{pick_yes, pick_no, test-clash}
use Rattle.rows.specs.declared.Row.{Row}
use Rattle.rows.specs.declared.Book.{Book}
use Rattle.rows.specs.View.{need_cm, blocked}
use Rattle.rows.specs.Rows.{collateral, view, with_allocated, with_pledged, with_row, with_new, less_kinds}
use Rattle.rows.proofs.Counted.{counted-rises}
use Rattle.rows.specs.declared.Rule.TheVariants.{New}
use Rattle.book.specs.Asked.{shortfall}
use Rattle.book.specs.Facts.{Sound}
use Rattle.book.proofs.NoWorse.{no-worse-shortfall}
use Rattle.book.proofs.OneRow.{row-no-worse}
use Rattle.book.proofs.Opens.{opened-shortfall}
use Rattle.book.proofs.SoundAfter.{in_table}
use Rattle.dayfile.specs.declared.Record.{Record}
use Rattle.rules.specs.declared.Change.{Change}
use Rattle.rules.specs.declared.Change.TheVariants.{Refuse, Put, Open}
use Rattle.rules.specs.Refusals.{is_opening, named_row, left_below, need_passes, new_margin}
use Rattle.rules.specs.Effects.{amended, change_of, moved_on, book_after}
use Rattle.rules.proofs.Codes.{Code, open_tm, open_client, open_cp, receive, hand_back, allocate, release, pledge, unpledge, margin, retire, set_pledged, set_margin, known-code-cases}
use Rattle.rules.proofs.Passing.{Passes}
use Rattle.rules.proofs.Amending.{by-receive, by-hand-back, by-allocate, by-release, by-pledge, by-unpledge, by-margin, by-retire}
use Rattle.rules.proofs.Deciding.{put-passes, made-put, never-openings}
use Rattle.rules.proofs.Moves.{amended-same, opened}

module _ (b : Book) (r : Record) (p : Passes b r) where
  abbrev row : Row
  row = named_row b r

  abbrev held : ℕ
  held = blocked (view b) r.account

  -- a release and an unpledge leave what was blocked
  left-above : (r.code ≡ 7) ⊎ (r.code ≡ 9) → left_below row held r ≡ false
  left-above (inl e) = ap (λ n. (eqb n 7 || eqb n 9) && left_below row held r) (sym e) ∙ p.not_blocked
  left-above (inr e) = ap (λ n. (eqb n 7 || eqb n 9) && left_below row held r) (sym e) ∙ p.not_blocked

  -- a row with no higher margin and with collateral at least what was blocked, put in its place
  no-higher : (x : Row) → amended row r ≡ x → x.margin ≤ row.margin → held ≤ collateral x → shortfall (view (with_row b r.account (amended row r))) ≤ shortfall (view b)
  no-higher x e m c =
      let same = amended-same row r in
      no-worse-shortfall (view b) (view (with_row b r.account (amended row r)))
      (row-no-worse b r.account (amended row r) (in_table b p.sound r.account p.account) same.0 same.1 (rw e m) (rw e c)) p.sound.shaped.top

  released : r.code ≡ 7 → held ≤ collateral (with_allocated row (less_kinds row.allocated r.kinds))
  released e = subst (λ x. held ≤ collateral x) (pick_yes _ _ _ (eq-eqb _ _ e)) (ltb-false _ _ (left-above (inl e)))

  unpledged : r.code ≡ 9 → held ≤ collateral (with_pledged row (row.pledged - r.pledged))
  unpledged e = subst (λ x. held ≤ collateral x) (pick_no _ _ _ (rw e)) (ltb-false _ _ (left-above (inr e)))

  -- a margin under code 10 rises to where the CM is covered, or doesn't rise
  set-margin : r.code ≡ 10 → shortfall (view (with_row b r.account (amended row r))) ≤ shortfall (view b)
  set-margin e = by (ltb row.margin r.margin) refl
    where
      by : (t : Bool) → ltb row.margin r.margin ≡ t → shortfall (view (with_row b r.account (amended row r))) ≤ shortfall (view b)
      by true q =
          let h : need_passes (view (new_margin b r)) ≡ false = rw (e, q) at p.covered in
          rw (by-margin row r e) (omega (arith, ltb-false ((view (new_margin b r)).collateral 0) (need_cm (view (new_margin b r))) h))
      by false q = no-higher _ (by-margin row r e) (ltb-false _ _ q) (omega arith)

  pub put-shortfall : is_opening r ≡ false → (r.code ≡ 12 → ⊥) → (r.code ≡ 13 → ⊥) → shortfall (view (with_row b r.account (amended row r))) ≤ shortfall (view b)
  put-shortfall never n₁₂ n₁₃ = by (known-code-cases r.code p.good.known)
    where
      by : Code r.code → shortfall (view (with_row b r.account (amended row r))) ≤ shortfall (view b)
      by (open_tm e) = test-clash (rw e) never
      by (open_client e) = test-clash (rw e) never
      by (open_cp e) = test-clash (rw e) never
      by (receive e) = no-higher _ (by-receive row r e) (omega arith) (omega arith)
      by (hand_back e) = no-higher _ (by-hand-back row r e) (omega arith) (omega arith)
      by (allocate e) =
          no-higher _ (by-allocate row r e) (omega arith)
          (omega (arith, counted-rises New row.allocated.securities (row.allocated.securities + r.kinds.securities) (omega arith)))
      by (release e) = no-higher _ (by-release row r e) (omega arith) (released e)
      by (pledge e) = no-higher _ (by-pledge row r e) (omega arith) (omega arith)
      by (unpledge e) = no-higher _ (by-unpledge row r e) (omega arith) (unpledged e)
      by (margin e) = set-margin e
      by (retire e) = no-higher _ (by-retire row r e) (omega arith) (omega arith)
      by (set_pledged e) = absurd (n₁₂ e)
      by (set_margin e) = absurd (n₁₃ e)

-- the book after a record, its needs and modes settled, has the rows after its change
pub record-shortfall : (b : Book) (r : Record) → Sound b → (r.code ≡ 12 → ⊥) → (r.code ≡ 13 → ⊥)
    → shortfall (view (book_after b r.account (change_of b r))) ≤ shortfall (view b)
unfolding pick
record-shortfall b r s n₁₂ n₁₃ = by (change_of b r) refl
  where
    stays : (t : Bool) → shortfall (view (pick t b (moved_on b))) ≤ shortfall (view b)
    stays true = omega arith
    stays false = omega arith

    by : (c : Change) → change_of b r ≡ c → shortfall (view (book_after b r.account c)) ≤ shortfall (view b)
    by (Refuse n) e = stays (leb n 3)
    by (Put x) e =
        let p = put-passes b r x e in
        subst (λ y. shortfall (view (with_row b r.account y)) ≤ shortfall (view b)) (sym (made-put b r x e)) (put-shortfall b r p (never-openings b r x e) n₁₂ n₁₃)
    by (Open x) e = omega (arith, opened-shortfall (view b) (view (with_new b x)) (opened b r x s e) s.shaped)
