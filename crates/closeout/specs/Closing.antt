-- Document 01, 'Close-out': the checks, the answer and the room.
use Rattle.std.specs.Prelude.{Bool, not, ◌&&◌, ◌||◌, List, [], ◌∷◌, ℕ, ◌*◌, leb, eqb, length, get_or}
use Rattle.sums.specs.Sum.{all}
use Rattle.sums.specs.Choice.{unless_refused}
use Rattle.sums.specs.Table.{Line, ◌when◌, first}
use Rattle.rows.specs.declared.Row.{Row}
use Rattle.rows.specs.declared.Book.{Book}
use Rattle.rows.specs.Rows.{ceiling, row_at, view}
use Rattle.book.specs.Sound.{sound_b}
use Rattle.closeout.specs.declared.Closed.{Closed}
use Rattle.closeout.specs.Columns.{four, rows_to, total}

-- "one loss for each account (retired ones too)"; document 02, K11: "Losses in a close-out are listed by row held.": row i's
abbrev pub loss_at : List ℕ → ℕ → ℕ
loss_at losses i = get_or losses i 0

-- "16: a loss passes the ceiling, or a retired account has a loss other than 0"
abbrev pub good_loss : Row → ℕ → Bool
good_loss row loss = leb loss ceiling && (row.live || eqb loss 0)

-- every loss is good
abbrev pub good_losses : Book → List ℕ → Bool
good_losses b losses = all b.count (λ i. good_loss (row_at b i) (loss_at losses i))

-- "The checks are 1, 15 (losses, then room), 16." 15: "the losses aren't one for each account, or the room isn't four for each",
-- so that a longer room is refused too
abbrev pub close_out_refusals : Book → List ℕ → List ℕ → List Line
close_out_refusals b losses room =
    (1 when not (sound_b b))
    ∷ (15 when not (eqb (length losses) b.count))
    ∷ (15 when not (eqb (length room) (4 * b.count)))
    ∷ (16 when not (good_losses b losses))
    ∷ []

-- the first that applies, or 0
unfoldable pub close_out_refusal : Book → List ℕ → List ℕ → ℕ
close_out_refusal b losses room = first (close_out_refusals b losses room)

-- "A refusal leaves the room untouched and gives a total of 0."
abbrev pub no_total : ℕ → Closed
no_total n = record { refusal = n; total = 0 }

-- what the close-out gives beside the room
unfoldable pub closed_of : Book → List ℕ → List ℕ → Closed
closed_of b losses room = unless_refused (close_out_refusal b losses room) (record { refusal = 0; total = total (view b) (loss_at losses) }) no_total

-- the room row by row, four amounts an account
unfoldable pub room_of : Book → List ℕ → List ℕ → List ℕ
room_of b losses room = unless_refused (close_out_refusal b losses room) (rows_to (four (view b) (loss_at losses)) b.count) (λ n. room)
