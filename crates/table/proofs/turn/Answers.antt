-- `table::turn` meets its contract. The invariant: gathered from the words, the rows passed are the book's.
use borrow.Author.Rules.{rules}
use lib.ListN.{length}
use mathlib.Core.Path.{◌≡◌, refl, sym, ap, ◌∙◌}
use native.Mathlib.Omega.{arith}
use lib.Seq.{ext_get_or}
use Rattle.sums.proofs.Lists.{filled-step}
use Rattle.rows.specs.Rows.{no_row, row_at}
use Rattle.table.specs.Words.{rows_of}
use Rattle.table.proofs.Gathered.{rows-length}
use Rattle.table.proofs.RowsPut.{row_put}
use Rattle.table.proofs.Turning.{turned-from}
use Rattle.table.proofs.turn.Goals as goal

pub loop-i-init : goal.loop-i-init
loop-i-init c = (record { sorts = refl; lives = refl; tms = refl; words = refl }, λ a l. absurd (omega arith))

pub loop-i-preserved : goal.loop-i-preserved
loop-i-preserved c =
    let at = c in
    let b = at.args.b in
    let l = at.loop-i in
    let m = l.marks in
    let h = row_put m l.amounts l.i l.invariant.0 (omega arith) (row_at b l.i) in
    let e = c.put_row.ensures in
    rw (e.marks_after, e.w_after) (
      h.size,
      λ a q. rw h.rows (filled-step (row_at b) (rows_of m l.amounts) no_row l.i (row_at b l.i) (omega (arith, rows-length m l.amounts)) l.invariant.1 refl a q),
    )

pub returns : goal.returns
returns c =
    let b = c.args.b in
    let l = c.loop-i in
    let m = l.marks in
    let width : length b.rows ≡ 256 = search rules in
    let all = ext_get_or no_row (rows_of m l.amounts) b.rows (rows-length m l.amounts ∙ sym width) (λ a q. l.invariant.1 a (omega (arith, rows-length m l.amounts))) in
    turned-from (record { count = b.count; serial = b.serial; marks = m; modes = b.modes; needs = b.needs; next = b.next; numbers = b.numbers; amounts = l.amounts }) b l.invariant.0
    (ap (λ x. record { count = b.count; serial = b.serial; rows = x; modes = b.modes; needs = b.needs; next = b.next; numbers = b.numbers }) all)
