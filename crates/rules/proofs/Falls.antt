-- K6: at a sound book with no shortfall (K8) a live account's margin that does not rise never makes the CM's need pass its collateral, so that 13 for a rising margin and
-- document 01's 13, for any, are the same test there.
use mathlib.Core.Bool.{Bool, true, false, ◌&&◌}
use mathlib.Core.List.{[], ◌∷◌, ◌++◌}
use mathlib.Core.Path.{◌≡◌, refl, sym, ap}
use Prim.Native.Nat.{◌≤◌, ◌<◌}
use native.Mathlib.Omega.{arith}
use lib.Dec.{ltb, eqb}
use borrow.Author.Tests.{ltb-true, ltb-false, le-ltb}
use Rattle.sums.specs.Table.{◌when◌}
use Rattle.sums.proofs.Choices.{and_split}
use Rattle.sums.proofs.Tables.{first-names}
use Rattle.rows.specs.declared.Book.{Book}
use Rattle.rows.specs.View.{blocked}
use Rattle.rows.specs.Rows.{mode_at, view, with_margin, has_live_client}
use Rattle.rows.proofs.Cover.{Covered}
use Rattle.book.specs.Facts.{Sound}
use Rattle.book.proofs.SoundAfter.{in_table}
use Rattle.book.proofs.OneRow.{row-no-worse}
use Rattle.book.proofs.NoWorse.{no-worse-covered}
use Rattle.dayfile.specs.declared.Record.{Record}
use Rattle.rules.specs.Refusals.{named_row, held_by_mode, left_below, takes_blocked, need_passes, new_margin, loses_cover, not_retirable, refusal_of}
use Rattle.rules.proofs.HeldByMode.{ahead}

module _ (b : Book) (s : Sound b) (c : Covered (view b)) (r : Record) (l : r.account < b.count) where
  pub stays-covered : r.margin ≤ (named_row b r).margin → need_passes (view (new_margin b r)) ≡ false
  stays-covered h =
      le-ltb _ _ (no-worse-covered (view b) (view (new_margin b r))
      (row-no-worse b r.account (with_margin (named_row b r) r.margin) (in_table b s r.account l) refl refl h (omega arith)) s.shaped.top c)

  pub same-as-any : loses_cover (named_row b r) (need_passes (view (new_margin b r))) r ≡ (eqb r.code 10 && need_passes (view (new_margin b r)))
  same-as-any = ap (λ t. eqb r.code 10 && t) (by (ltb (named_row b r).margin r.margin) refl)
    where
      by : (t : Bool) → ltb (named_row b r).margin r.margin ≡ t → (t && need_passes (view (new_margin b r))) ≡ need_passes (view (new_margin b r))
      by true e = refl
      by false e = sym (stays-covered (ltb-false _ _ e))

-- 13 is given for a rising margin alone
pub rises-at-13 : (b : Book) (r : Record) → refusal_of b r ≡ 13 → (named_row b r).margin < r.margin
unfolding refusal_of
rises-at-13 b r e =
    let lost = first-names 13
    (ahead b r ++ ((17 when held_by_mode (mode_at b r.account) r) ∷ (12 when takes_blocked (left_below (named_row b r) (blocked (view b) r.account) r) r) ∷ []))
    ((14 when not_retirable (named_row b r) (has_live_client b r.account) r) ∷ [])
    (omega arith, (omega arith, (omega arith, (omega arith, (omega arith, (omega arith, (omega arith, (omega arith, (omega arith, (omega arith, (omega arith, (omega arith, tt)))))))))))) refl refl
    (loses_cover (named_row b r) (need_passes (view (new_margin b r))) r) e in
    let rise = (and_split (eqb r.code 10) (ltb (named_row b r).margin r.margin && need_passes (view (new_margin b r))) lost).1 in
    ltb-true _ _ (and_split (ltb (named_row b r).margin r.margin) (need_passes (view (new_margin b r))) rise).0
