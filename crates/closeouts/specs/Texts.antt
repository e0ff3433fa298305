-- What `closeouts` prints behind the closing line.
use Rattle.std.specs.Prelude.{List, ℕ, ◌*◌, take, replicate}
use Rattle.rows.specs.declared.Book.{Book}
use Rattle.closeout.specs.Closing.{closed_of, room_of}
use Rattle.report.specs.Reports.{accounts, close_out_text}

-- the room that is lent for the amounts: four for each account
abbrev pub lent : Book → List ℕ
lent b = take (4 * accounts b.count) (replicate 1024 0)

-- a line per account: number, loss, the four amounts; then `total N`, or `refused N` alone in their place, by what the close-out
-- of document 01 gives for these losses
unfoldable pub text_of : Book → List ℕ → List ℕ
text_of b losses =
    close_out_text (closed_of b losses (lent b)).refusal (closed_of b losses (lent b)).total b.numbers losses (room_of b losses (lent b))
