-- The table that a run leaves is the old order's book after it, turned over.
use mathlib.Core.List.{List}
use mathlib.Core.Path.{◌≡◌, ap, ◌∙◌}
use Prim.Native.Nat.{ℕ}
use Rattle.rows.specs.declared.Book.{Book}
use Rattle.records.specs.Runs.{ran_of, number_closing, closing_refusal}
use Rattle.records.proofs.Closings.{ran-closing}
use Rattle.run.specs.declared.Ended.{Ended}
use Rattle.run.specs.Over.{over_ran}

-- its closing word has the number that the book before it has
pub closing-named : (b : Book) (piece : List ℕ) (most : ℕ) (x : Ended) → x ≡ over_ran (ran_of b piece most) → number_closing x.closing ≡ closing_refusal b
closing-named b piece most x e = ap (λ y. number_closing y.closing) e ∙ ran-closing b piece most
