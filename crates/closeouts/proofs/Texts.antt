-- The text of the close-out's answer and of the amounts in its room.
use mathlib.Core.Bool.{Bool, true, false}
use mathlib.Core.List.{List, ◌++◌}
use mathlib.Core.Path.{◌≡◌, refl, sym, ap, ◌∙◌}
use Prim.Native.Nat.{ℕ, suc, ◌*◌}
use native.Mathlib.Omega.{arith}
use borrow.Author.Tests.{eqb-true}
use lib.Dec.{eqb}
use lib.ListN.{length, take, replicate}
use lib.Seq.{take-append_seam}
use Rattle.rows.specs.declared.Book.{Book}
use Rattle.rows.specs.Rows.{view}
use Rattle.book.specs.Sound.{sound_b}
use Rattle.closeout.specs.declared.Closed.{Closed}
use Rattle.closeout.specs.Columns.{four, rows_to, total}
use Rattle.closeout.specs.Closing.{loss_at, close_out_refusal, closed_of, room_of}
use Rattle.closeout.proofs.Answers.{refused-sound, refused-losses}
use Rattle.closeout.proofs.Cells.{length-rows, four-long}
use Rattle.closeout.proofs.Carried.{carried-sound, carried-room}
use Rattle.report.specs.Reports.{accounts, listed, total_word, refused_word, word_line, loss_lines, close_out_text}
use Rattle.closeouts.specs.Texts.{lent, text_of}

pub text-is : (b : Book) (losses room amounts rest : List ℕ) (x : Closed) (n : ℕ) → room ≡ replicate 1024 0 → n ≡ accounts b.count
    → length amounts ≡ 4 * n → x ≡ closed_of b losses (take (4 * n) room) → amounts ≡ room_of b losses (take (4 * n) room)
    → close_out_text x.refusal x.total b.numbers losses (take (4 * n) (amounts ++ rest)) ≡ text_of b losses
unfolding text_of
text-is b losses room amounts rest x n zeros given wide answer rows =
    let e : take (4 * n) room ≡ lent b = ap (take (4 * n)) zeros ∙ ap (λ (k : ℕ). take (4 * k) (replicate 1024 0)) given in
    let front : take (4 * n) (amounts ++ rest) ≡ amounts =
    ap (λ (k : ℕ). take k (amounts ++ rest)) (sym wide) ∙ take-append_seam amounts rest in
    ap (close_out_text x.refusal x.total b.numbers losses) (front ∙ rows)
    ∙ ap (λ (y : Closed). close_out_text y.refusal y.total b.numbers losses (room_of b losses (take (4 * n) room))) answer
    ∙ ap (λ (r : List ℕ). close_out_text (closed_of b losses r).refusal (closed_of b losses r).total b.numbers losses (room_of b losses r)) e

module _ (b : Book) (losses : List ℕ) where
  -- "or `refused N` alone in their place"
  pub refused-text : (n : ℕ) → close_out_refusal b losses (lent b) ≡ suc n → text_of b losses ≡ word_line refused_word (suc n)
  unfolding text_of closed_of close_out_text
  refused-text n e = rw e

  module _ (ok : close_out_refusal b losses (lent b) ≡ 0) where
    a-loss-each : length losses ≡ b.count
    a-loss-each = by (sound_b b) refl (eqb (length losses) b.count) refl
      where
        by : (s : Bool) → sound_b b ≡ s → (n : Bool) → eqb (length losses) b.count ≡ n → length losses ≡ b.count
        by false e n q = absurd (omega (arith, refused-sound b losses (lent b) e))
        by true e true q = eqb-true _ _ q
        by true e false q = absurd (omega (arith, refused-losses b losses (lent b) e q))

    -- "a line per account: number, loss, the four amounts; then `total N`": no account is left out
    pub carried-text : text_of b losses
        ≡ loss_lines b.numbers losses (rows_to (four (view b) (loss_at losses)) b.count) b.count ++ word_line total_word (total (view b) (loss_at losses))
    unfolding text_of closed_of close_out_text
    carried-text =
        let rows = rows_to (four (view b) (loss_at losses)) b.count in
        let wide : length rows ≡ 4 * b.count = length-rows (four (view b) (loss_at losses)) (four-long (view b) (loss_at losses)) b.count in
        let all : listed losses rows ≡ b.count = omega (arith, a-loss-each, wide, (carried-sound b losses (lent b) ok).most) in
        rw (ok, carried-room b losses (lent b) ok) (ap (λ (n : ℕ). loss_lines b.numbers losses rows n ++ word_line total_word (total (view b) (loss_at losses))) all)
