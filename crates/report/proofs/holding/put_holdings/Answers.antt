use Rattle.std.proofs.Common.{append_assoc, refl, sym, ◌∙◌, arith}
use Rattle.table.specs.Words.{turned_back}
use Rattle.text.proofs.Puts.{puts_none, and_then, puts-as}
use Rattle.report.specs.Reports.{lines_of}
use Rattle.report.specs.Holdings.{book_line, columns, holding_at}
use Rattle.report.proofs.HoldingLines.{no-holding, every-holding}
use Rattle.report.proofs.holding.put_holdings.Goals as goal

pub returns-then-not-is_sound : goal.returns-then-not-is_sound
returns-then-not-is_sound c = rw (no-holding (turned_back c.args.t) (sym c.is_sound.ensures ∙ c.if-not-is_sound.true)) (puts_none _ _ refl (omega arith))

pub returns : goal.returns
returns c =
    let b = turned_back c.args.t in
    rw (every-holding b (sym c.is_sound.ensures ∙ c.if-not-is_sound.false))
    (puts-as (append_assoc (book_line b.serial b.next) columns (lines_of (holding_at b) b.count))
    (and_then _ _ c.put_head-at.ensures.puts (rw c.excess_under-excess.ensures.0.held at c.put_rows.ensures)))
