-- `book::sound::rows_sound` meets its contract.
use mathlib.Core.Bool.{◌&&◌}
use mathlib.Core.List.{[]}
use mathlib.Core.Path.{sym, ap, ap₂, ◌∙◌}
use Prim.Native.Nat.{ℕ}
use native.Mathlib.Omega.{arith}
use Rattle.sums.specs.Sum.{all}
use Rattle.sums.proofs.Sums.{all_none, all-step}
use Rattle.rows.specs.declared.Book.{Book}
use Rattle.table.specs.Words.{book_from}
use Rattle.book.specs.Sound.{row_sound}
use Rattle.book.proofs.sound.rows_sound.Goals as goal

pub loop-i-init : goal.loop-i-init
loop-i-init c =
    let book_of : Book =
    book_from c.args.count 0 c.args.marks.now c.args.w.now [] [] 0 []
    in sym (all_none (row_sound book_of))

pub loop-i-preserved : goal.loop-i-preserved
loop-i-preserved c =
    let book_of : Book =
    book_from c.args.count 0 c.args.marks.now c.args.w.now [] [] 0 []
    in
    let at = c in
    ap₂ ◌&&◌ at.loop-i.invariant c.good_row-ok.ensures ∙ sym (all-step at.loop-i.i (row_sound book_of))

pub returns : goal.returns
returns c =
    let book_of : Book =
    book_from c.args.count 0 c.args.marks.now c.args.w.now [] [] 0 []
    in c.loop-i.invariant ∙ ap (λ (k : ℕ). all k (row_sound book_of)) (omega arith)

pub good_row-ok-requires : goal.good_row-ok-requires
good_row-ok-requires c = omega arith
