-- `book::sound::rows_sound` meets its contract.
use mathlib.Core.List.{[]}
use mathlib.Core.Path.{◌≡◌}
use Rattle.sums.specs.Sum.{all}
use Rattle.table.specs.Words.{book_from}
use Rattle.book.specs.Sound.{row_sound}
use Rattle.book.proofs.sound.rows_sound.Given as goal

abbrev pub invariant-loop-i : goal.invariant-loop-i
invariant-loop-i l =
    l.ok ≡ all l.i (row_sound (book_from l.count 0 l.marks l.w [] [] 0 []))
