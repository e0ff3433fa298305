-- Steps and close-outs at a sound book, without the test of soundness: they compute at once.
use mathlib.Core.Bool.{not}
use mathlib.Core.List.{List, [], ◌∷◌}
use mathlib.Core.Path.{◌≡◌, refl, sym, ap, ◌∙◌}
use Prim.Native.Nat.{ℕ}
use lib.ListN.{drop}
use Rattle.sums.specs.Choice.{unless_refused}
use Rattle.sums.specs.Table.{first}
use Rattle.sums.proofs.Tables.{first-later}
use Rattle.rows.specs.declared.Book.{Book}
use Rattle.rows.specs.Rows.{view}
use Rattle.book.specs.Sound.{sound_b}
use Rattle.book.specs.Facts.{Sound}
use Rattle.book.proofs.SoundTest.{sound←}
use Rattle.dayfile.specs.declared.Record.{Record}
use Rattle.rules.specs.Refusals.{beside_of}
use Rattle.rules.specs.Numbered.{placed, row_named}
use Rattle.rules.proofs.WhatIsBeside.{change_by, beside-is, change-beside}
use Rattle.records.proofs.SoundRun.{step-sound}
use Rattle.desk.specs.Steps.{Done, done_by, step_of}
use Rattle.closeout.specs.declared.Closed.{Closed}
use Rattle.closeout.specs.Columns.{four, rows_to, total}
use Rattle.closeout.specs.Closing.{loss_at, no_total, close_out_refusals, close_out_refusal, closed_of, room_of}
use Rattle.promises.specs.Sequences.{after_all}

abbrev pub quick_step : Book → Record → Done
quick_step b r = done_by b r (change_by (row_named b r) b.count b.next b.serial (beside_of b (placed b r)) (placed b r))

pub quick-step : (b : Book) (r : Record) → Sound b → step_of b r ≡ quick_step b r
unfolding step_of
quick-step b r s = ap (done_by b r) (sym (change-beside b s (placed b r) (beside_of b (placed b r)) (beside-is b (placed b r))))

pub all_sound : (b : Book) (rs : List Record) → Sound b → Sound (after_all b rs)
unfolding after_all
all_sound b [] s = s
all_sound b (r ∷ rs) s = all_sound (step_of b r).book rs (step-sound b r s)

unfoldable pub quick_all : Book → List Record → Book
quick_all b [] = b
quick_all b (r ∷ rs) = quick_all (quick_step b r).book rs

pub quick-all : (b : Book) (rs : List Record) → Sound b → after_all b rs ≡ quick_all b rs
unfolding after_all quick_all
quick-all b [] s = refl
quick-all b (r ∷ rs) s = quick-all (step_of b r).book rs (step-sound b r s) ∙ ap (λ d. quick_all d.book rs) (quick-step b r s)

-- the close-out's table past its first line, which asks whether the book is sound
abbrev quick_refusal : Book → List ℕ → List ℕ → ℕ
quick_refusal b losses room = first (drop 1 (close_out_refusals b losses room))

abbrev pub quick_closed : Book → List ℕ → List ℕ → Closed
quick_closed b losses room = unless_refused (quick_refusal b losses room) (record { refusal = 0; total = total (view b) (loss_at losses) }) no_total

abbrev pub quick_room : Book → List ℕ → List ℕ → List ℕ
quick_room b losses room = unless_refused (quick_refusal b losses room) (rows_to (four (view b) (loss_at losses)) b.count) (λ n. room)

module _ (b : Book) (losses room : List ℕ) (s : Sound b) where
  quick-refusal : close_out_refusal b losses room ≡ quick_refusal b losses room
  unfolding close_out_refusal
  quick-refusal = first-later 1 (not (sound_b b)) _ (ap not (sound← b s))

  pub quick-closed : closed_of b losses room ≡ quick_closed b losses room
  unfolding closed_of
  quick-closed = ap (λ n. unless_refused n (record { refusal = 0; total = total (view b) (loss_at losses) }) no_total) quick-refusal

  pub quick-room : room_of b losses room ≡ quick_room b losses room
  unfolding room_of
  quick-room = ap (λ n. unless_refused n (rows_to (four (view b) (loss_at losses)) b.count) (λ m. room)) quick-refusal
