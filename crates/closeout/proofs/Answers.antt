-- Which refusal is given, and what a refusal and a list carried out leave.
use mathlib.Core.Path.{◌≡◌, refl, ◌∙◌, ap}
use mathlib.Core.Bool.{true, false, not}
use mathlib.Core.List.{List, []}
use Prim.Native.Nat.{ℕ, ◌*◌, ◌≤◌, ◌<◌}
use lib.Dec.{eqb, leb}
use lib.ListN.{length}
use borrow.Author.Tests.{leb-true}
use Rattle.sums.specs.Choice.{unless_refused}
use Rattle.sums.specs.Table.{first}
use Rattle.sums.proofs.Sums.{all-at}
use Rattle.sums.proofs.Choices.{and_split}
use Rattle.sums.proofs.Tables.{first-here, first-later}
use Rattle.rows.specs.declared.Book.{Book}
use Rattle.rows.specs.Rows.{ceiling, row_at, view}
use Rattle.book.specs.Sound.{sound_b}
use Rattle.closeout.specs.declared.Closed.{Closed}
use Rattle.closeout.specs.Columns.{four, rows_to, total}
use Rattle.closeout.specs.Closing.{loss_at, good_loss, good_losses, no_total, close_out_refusal, closed_of, room_of}

none_left : first [] ≡ 0
unfolding first
none_left = refl

module _ (b : Book) (losses room : List ℕ) where
  pub refused-sound : sound_b b ≡ false → close_out_refusal b losses room ≡ 1
  unfolding close_out_refusal
  refused-sound e = first-here 1 _ _ (ap not e)

  module _ (s : sound_b b ≡ true) where
    pub refused-losses : eqb (length losses) b.count ≡ false → close_out_refusal b losses room ≡ 15
    unfolding close_out_refusal
    refused-losses e = first-later 1 _ _ (ap not s) ∙ first-here 15 _ _ (ap not e)

    module _ (n : eqb (length losses) b.count ≡ true) where
      pub refused-room : eqb (length room) (4 * b.count) ≡ false → close_out_refusal b losses room ≡ 15
      unfolding close_out_refusal
      refused-room e = first-later 1 _ _ (ap not s) ∙ first-later 15 _ _ (ap not n) ∙ first-here 15 _ _ (ap not e)

      module _ (w : eqb (length room) (4 * b.count) ≡ true) where
        pub refused-loss : good_losses b losses ≡ false → close_out_refusal b losses room ≡ 16
        unfolding close_out_refusal
        refused-loss e =
            first-later 1 _ _ (ap not s) ∙ first-later 15 _ _ (ap not n) ∙ first-later 15 _ _ (ap not w) ∙ first-here 16 _ _ (ap not e)

        pub none-refused : good_losses b losses ≡ true → close_out_refusal b losses room ≡ 0
        unfolding close_out_refusal
        none-refused e =
            first-later 1 _ _ (ap not s) ∙ first-later 15 _ _ (ap not n) ∙ first-later 15 _ _ (ap not w) ∙ first-later 16 _ _ (ap not e) ∙ none_left

  -- the answer and the room go by the refusal
  pub answer-by-refusal : (n : ℕ) {x : Closed} {room' : List ℕ} → close_out_refusal b losses room ≡ n → x ≡ unless_refused n (record { refusal = 0; total = total (view b) (loss_at losses) }) no_total
      → room' ≡ unless_refused n (rows_to (four (view b) (loss_at losses)) b.count) (λ m. room) → (x ≡ closed_of b losses room) × (room' ≡ room_of b losses room)
  unfolding closed_of room_of
  answer-by-refusal n e p q = rw e (p, q)

-- no loss passes the ceiling
pub losses-small : (b : Book) (losses : List ℕ) → good_losses b losses ≡ true → (i : ℕ) → i < b.count → loss_at losses i ≤ ceiling
losses-small b losses e i m =
    leb-true _ _ (and_split (leb (loss_at losses i) ceiling) _ (all-at b.count (λ k. good_loss (row_at b k) (loss_at losses k)) e i m)).0
