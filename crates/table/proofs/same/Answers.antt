-- `table::same` meets its contract.
use mathlib.Core.Path.{sym}
use borrow.Author.Rules.{rules}
use Rattle.table.specs.Facts.{Sized}
use Rattle.table.proofs.Turning.{back-and-over}
use Rattle.table.proofs.same.Goals as goal

pub returns : goal.returns
returns c =
    let h : Sized c.args.t.marks c.args.t.amounts = record { sorts = search rules; lives = search rules; tms = search rules; words = search rules } in
    sym (back-and-over _ h)
