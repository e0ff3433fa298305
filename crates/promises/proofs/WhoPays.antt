-- Demand 3 by payers: whose collateral the losses of a close-out come out of, and how much of it in all. What the fund pays: `the-fund-pays-at-most` of
-- DemandThree.
use mathlib.Core.List.{List}
use mathlib.Core.Logic.{◌⊎◌}
use mathlib.Core.Path.{◌≡◌, sym, ◌∙◌}
use Prim.Native.Nat.{ℕ, ◌+◌, ◌≤◌, ◌<◌, min}
use native.Mathlib.Omega.{arith}
use Rattle.sums.specs.Sum.{sum}
use Rattle.sums.proofs.Sums.{sum-eq}
use Rattle.rows.specs.declared.Book.{Book}
use Rattle.rows.specs.Facts.{Shaped}
use Rattle.rows.specs.Rows.{row_at, collateral, view}
use Rattle.rows.proofs.BySort.{client-sort, client-tm}
use Rattle.closeout.specs.Columns.{uncovered, four, total}
use Rattle.closeout.specs.Bound.{cell_of}
use Rattle.closeout.specs.Closing.{loss_at, close_out_refusal, closed_of}
use Rattle.closeout.proofs.Cells.{cell-of-rows, four-long}
use Rattle.closeout.proofs.Carried.{carried-sound, carried-total, carried-room}
use Rattle.promises.specs.Payers.{taken_out, pays_in_all}
use Rattle.promises.proofs.Payments.{amount_of, each-column-from-the-one-it-names, nothing-from-any-other, taken-and-uncovered-add-up, a-client-or-CP-pays, nobody-pays-more, payments-and-total-add-up}

-- The same of what a caller holds after a close-out carried out: the room, in which account i's amount number k is `cell_of`, and the total beside it.
module _ (b : Book) (losses room : List ℕ) (carried : close_out_refusal b losses room ≡ 0) where
  shaped : Shaped (view b)
  shaped = (carried-sound b losses room carried).shaped

  cells : (i : ℕ) → i < b.count → (k : ℕ) → k < 4 → cell_of b losses room i k ≡ amount_of (view b) (loss_at losses) i k
  cells i m k h = rw (carried-room b losses room carried) (cell-of-rows (four (view b) (loss_at losses)) (four-long (view b) (loss_at losses)) b.count i k m h)

  taken : (p i : ℕ) → i < b.count → taken_out (view b) (cell_of b losses room) p i ≡ taken_out (view b) (amount_of (view b) (loss_at losses)) p i
  unfolding taken_out
  taken p i m = rw (cells i m 0 (omega arith), cells i m 1 (omega arith), cells i m 2 (omega arith))

  payment : (p : ℕ) → pays_in_all (view b) (cell_of b losses room) p ≡ pays_in_all (view b) (amount_of (view b) (loss_at losses)) p
  payment p =
      sum-eq b.count (taken_out (view b) (cell_of b losses room) p) (taken_out (view b) (amount_of (view b) (loss_at losses)) p) (taken p)

  -- The first amount comes out of the account's own collateral, a client's second out of its TM's, and the third, of any account but the CM, out of the
  -- CM's; ..
  pub each-amount-from-the-one-it-names : (i : ℕ) → i < b.count
      → (taken_out (view b) (cell_of b losses room) i i ≡ cell_of b losses room i 0)
      × ((row_at b i).sort ≡ 2 → taken_out (view b) (cell_of b losses room) (row_at b i).tm i ≡ cell_of b losses room i 1)
      × (0 < i → taken_out (view b) (cell_of b losses room) 0 i ≡ cell_of b losses room i 2)
  unfolding four
  each-amount-from-the-one-it-names i m =
      let named = each-column-from-the-one-it-names (view b) shaped (loss_at losses) i m in (
        taken i i m ∙ named.0 ∙ sym (cells i m 0 (omega arith)),
        (λ e. taken (row_at b i).tm i m ∙ named.1 e ∙ sym (cells i m 1 (omega arith))),
        (λ o. taken 0 i m ∙ named.2 o ∙ sym (cells i m 2 (omega arith))),
      )

  -- .. and nothing comes out of anybody else's.
  pub nothing-from-anybody-else : (p i : ℕ) → i < b.count → (p ≡ i → ⊥) → ((row_at b i).sort ≡ 2 → (row_at b i).tm ≡ p → ⊥) → (p ≡ 0 → ⊥)
      → taken_out (view b) (cell_of b losses room) p i ≡ 0
  nothing-from-anybody-else p i m a c z =
      taken p i m ∙ nothing-from-any-other (view b) shaped (loss_at losses) p i a (λ q. c (client-sort (view b) p i q) (client-tm (view b) p i q)) z

  -- What an account's loss takes out of all accounts' collateral, added up, and its uncovered part (the fourth amount) are its loss.
  pub taken-and-uncovered-are-the-loss : (i : ℕ) → i < b.count
      → sum b.count (λ p. taken_out (view b) (cell_of b losses room) p i) + cell_of b losses room i 3 ≡ loss_at losses i
  unfolding four
  taken-and-uncovered-are-the-loss i m =
      omega (
        arith,
        sum-eq b.count (λ p. taken_out (view b) (cell_of b losses room) p i) (λ p. taken_out (view b) (amount_of (view b) (loss_at losses)) p i)
            (λ p q. taken p i m),
        cells i m 3 (omega arith),
        taken-and-uncovered-add-up (view b) shaped (loss_at losses) i m,
      )

  -- "a client or CP pays exactly the lesser of own loss and own collateral": added up over all losses, its own and everybody else's.
  pub a-client-or-CP-pays-the-lesser : (p : ℕ) → p < b.count → ((row_at b p).sort ≡ 2) ⊎ ((row_at b p).sort ≡ 3)
      → pays_in_all (view b) (cell_of b losses room) p ≡ min (loss_at losses p) (collateral (row_at b p))
  a-client-or-CP-pays-the-lesser p m e = payment p ∙ a-client-or-CP-pays (view b) shaped (loss_at losses) p m e

  -- Added up over all losses, a TM, the CM and any other account pay at most their collateral.
  pub nobody-pays-more-than-it-has : (p : ℕ) → p < b.count → pays_in_all (view b) (cell_of b losses room) p ≤ collateral (row_at b p)
  nobody-pays-more-than-it-has p m = rw (payment p) (nobody-pays-more (view b) shaped (loss_at losses) p m)

  -- What all accounts pay, added up, and the total left uncovered, which the fund pays, are all losses, added up.
  pub payments-and-total-are-all-losses : sum b.count (pays_in_all (view b) (cell_of b losses room)) + (closed_of b losses room).total ≡ sum b.count (loss_at losses)
  payments-and-total-are-all-losses =
      omega (
        arith,
        sum-eq b.count (pays_in_all (view b) (cell_of b losses room)) (pays_in_all (view b) (amount_of (view b) (loss_at losses))) (λ p m. payment p),
        carried-total b losses room carried,
        payments-and-total-add-up (view b) shaped (loss_at losses),
      )
