-- `book::fresh` meets its contract.
use mathlib.Core.Bool.{true, false}
use mathlib.Core.List.{List}
use mathlib.Core.Path.{◌≡◌, refl, sym, ap, ◌∙◌}
use Prim.Native.Nat.{ℕ, zero, suc, ◌+◌, ◌*◌}
use lib.ListN.{get_or, set, replicate}
use Rattle.sums.proofs.Lists.{list-is, get_d-same}
use Rattle.rows.specs.Rows.{no_row, row_at, fresh_book}
use Rattle.table.specs.declared.Marks.{Marks}
use Rattle.table.specs.Words.{word_at, row_from, marks_from, row_in, rows_of}
use Rattle.table.proofs.Gathered.{row-eq}
use Rattle.table.proofs.Turning.{turned-from}
use Rattle.book.proofs.fresh.Goals as goal

-- each array as it is made
abbrev marks : Marks
marks = marks_from (replicate 256 0) (set (replicate 256 false) 0 true) (replicate 256 0)

abbrev words : List ℕ
words = replicate 2560 0

-- account i's row, gathered: all zero, and live where it is the CM's
row : (i : ℕ) → row_at fresh_book i ≡ row_in marks words i
unfolding fresh_book
row i = sym (row-eq (get_or marks.sort i 0) (get_or marks.live i false) (get_or marks.tm i 0) (λ k. word_at words k i) (λ k. 0) (λ k l. get_d-same {A = ℕ} 2560 (256 * k + i) 0) ∙ by i)
  where
    by : (i : ℕ) → row_from (get_or marks.sort i 0) (get_or marks.live i false) (get_or marks.tm i 0) (λ k. 0) ≡ row_at fresh_book i
    by zero = refl
    by (suc i) = rw (get_d-same {A = ℕ} 255 i 0, get_d-same 255 i false) (sym (get_d-same 255 i no_row))

pub returns : goal.returns
unfolding rows_of fresh_book
returns c =
    turned-from _ fresh_book (record { sorts = refl; lives = refl; tms = refl; words = refl })
    (ap (λ l. record { count = 1; serial = 0; rows = l; modes = replicate 256 false; needs = replicate 256 0; next = 1; numbers = replicate 256 0 }) (list-is (row_in marks words) 256 no_row fresh_book.rows refl (λ i l. row i)))
