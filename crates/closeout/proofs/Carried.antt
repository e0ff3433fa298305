-- What the answer and the room say after a call, for any book, losses and room.
use mathlib.Core.Path.{◌≡◌, refl, sym, ◌∙◌, ap}
use mathlib.Core.Bool.{Bool, true, false}
use mathlib.Core.List.{List}
use Prim.Native.Nat.{ℕ, zero, suc, ◌+◌, ◌*◌, ◌≤◌, ◌<◌, min}
use native.Mathlib.Omega.{arith}
use native.Mathlib.Nat.{add-zero}
use Rattle.sums.specs.Sum.{sum}
use Rattle.rows.specs.declared.Book.{Book}
use Rattle.rows.specs.Rows.{row_at, collateral, view}
use Rattle.rows.proofs.Cover.{Covered}
use Rattle.book.specs.Sound.{sound_b}
use Rattle.book.specs.Asked.{shortfall}
use Rattle.book.specs.Facts.{Sound}
use Rattle.book.proofs.SoundTest.{sound→}
use Rattle.closeout.specs.Columns.{is_client_or_cp, four, rows_to, total}
use Rattle.closeout.specs.Bound.{beyond, cell_of}
use Rattle.closeout.specs.Closing.{loss_at, close_out_refusal, closed_of, room_of}
use Rattle.closeout.proofs.TwoRounds.{adds-up, pays-own, each-own, in_all}
use Rattle.closeout.proofs.Cells.{own-cell, from_tm-cell, from_cm-cell, uncovered-cell}
use Rattle.closeout.proofs.Answers.{refused-sound}

-- "A refusal leaves the room untouched and gives a total of 0."
pub refused-total : (b : Book) (losses room : List ℕ) (n : ℕ) → close_out_refusal b losses room ≡ suc n → (closed_of b losses room).total ≡ 0
unfolding closed_of
refused-total b losses room n e = rw e

pub refused-untouched : (b : Book) (losses room : List ℕ) (n : ℕ) → close_out_refusal b losses room ≡ suc n → room_of b losses room ≡ room
unfolding room_of
refused-untouched b losses room n e = rw e

module _ (b : Book) (losses room : List ℕ) (ok : close_out_refusal b losses room ≡ 0) where
  pub carried-sound : Sound b
  carried-sound = sound→ b (by (sound_b b) refl)
    where
      by : (t : Bool) → sound_b b ≡ t → sound_b b ≡ true
      by true e = e
      by false e = absurd (omega (arith, refused-sound b losses room e))

  pub carried-total : (closed_of b losses room).total ≡ total (view b) (loss_at losses)
  unfolding closed_of
  carried-total = rw ok

  pub carried-room : room_of b losses room ≡ rows_to (four (view b) (loss_at losses)) b.count
  unfolding room_of
  carried-room = rw ok

  -- "A client or CP pays the lesser of loss and collateral from its own."
  pub carried-own : (i : ℕ) → i < b.count → is_client_or_cp (view b) i ≡ true → cell_of b losses room i 0 ≡ min (loss_at losses i) (collateral (row_at b i))
  carried-own i m e =
      rw (add-zero (4 * i), carried-room) (own-cell (view b) (loss_at losses) b.count i m ∙ pays-own (view b) (loss_at losses) i e)

  -- K1: each account's uncovered part is at most its own loss beyond its own margin; K8: "where the shortfall is 0"
  pub carried-each : Covered (view b) → (i : ℕ) → i < b.count → cell_of b losses room i 3 ≤ beyond (view b) (loss_at losses) i
  carried-each c i m =
      rw (carried-room, uncovered-cell (view b) (loss_at losses) b.count i m)
      (each-own (view b) carried-sound.shaped (loss_at losses) c i m)

  -- "They add up to the loss."
  pub carried-adds : (i : ℕ) → i < b.count
      → cell_of b losses room i 0 + cell_of b losses room i 1 + cell_of b losses room i 2 + cell_of b losses room i 3 ≡ loss_at losses i
  carried-adds i m =
      rw (add-zero (4 * i), carried-room)
      (omega (
        arith,
        own-cell (view b) (loss_at losses) b.count i m,
        from_tm-cell (view b) (loss_at losses) b.count i m,
        from_cm-cell (view b) (loss_at losses) b.count i m,
        uncovered-cell (view b) (loss_at losses) b.count i m,
        adds-up (view b) (loss_at losses) i,
      ))

-- no other account has a say in what a client or CP pays from its own: two calls that were carried out and agree on account i's
-- loss and collateral put the same amount into its first cell
pub own-paid-alone : (b c : Book) (losses others room space : List ℕ) → close_out_refusal b losses room ≡ 0 → close_out_refusal c others space ≡ 0 → (i : ℕ)
    → i < b.count → i < c.count → is_client_or_cp (view b) i ≡ true → is_client_or_cp (view c) i ≡ true → loss_at losses i ≡ loss_at others i → collateral (row_at b i) ≡ collateral (row_at c i)
    → cell_of b losses room i 0 ≡ cell_of c others space i 0
own-paid-alone b c losses others room space p q i m n x y e f =
    carried-own b losses room p i m x ∙ ap (λ (x : ℕ). min x (collateral (row_at b i))) e ∙ ap (min (loss_at others i)) f
    ∙ sym (carried-own c others space q i n y)

-- the total given is at most the shortfall and the losses beyond the margins, whatever was asked
pub total-bound : (b : Book) (losses room : List ℕ)
    → (closed_of b losses room).total ≤ shortfall (view b) + sum b.count (beyond (view b) (loss_at losses))
total-bound b losses room = by (close_out_refusal b losses room) refl
  where
    by : (n : ℕ) → close_out_refusal b losses room ≡ n → (closed_of b losses room).total ≤ shortfall (view b) + sum b.count (beyond (view b) (loss_at losses))
    by zero e = rw (carried-total b losses room e) (in_all (view b) (carried-sound b losses room e).shaped (loss_at losses))
    by (suc n) e = omega (arith, refused-total b losses room n e)
