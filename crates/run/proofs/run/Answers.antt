-- `run::run` meets its contract: a table's arrays are entered, and what is left of them is the book after the records, turned over.
use mathlib.Core.Path.{ap, ◌∙◌}
use borrow.Author.Rules.{rules}
use Rattle.sums.specs.Choice.{pick}
use Rattle.table.specs.declared.Table.{Table}
use Rattle.table.specs.Facts.{Sized}
use Rattle.table.proofs.Turning.{turned-from}
use Rattle.records.specs.Runs.{run_of}
use Rattle.records.specs.Inner.{put_numbers_from}
use Rattle.steps.proofs.Entering.{enterable, sound-enters}
use Rattle.run.specs.Over.{over_ran}
use Rattle.run.proofs.run.Goals as goal

pub enter-first-requires : goal.enter-first-requires
enter-first-requires c = enterable _ c.requires.0 record { sorts = search rules; lives = search rules; tms = search rules; words = search rules }

pub go-went-requires : goal.go-went-requires
go-went-requires c =
    let sized : Sized c.args.t.marks c.args.t.amounts = record { sorts = search rules; lives = search rules; tms = search rules; words = search rules } in
    ((sound-enters _ c.requires.0 sized c.enter-first.ensures.at c.enter-first.ensures.enters).0, c.requires.1)

pub returns : goal.returns
returns c =
    let sized : Sized c.args.t.marks c.args.t.amounts = record { sorts = search rules; lives = search rules; tms = search rules; words = search rules } in
    let left : Sized c.leave-table.result.marks c.leave-table.result.amounts = record { sorts = search rules; lives = search rules; tms = search rules; words = search rules } in
    let same = (sound-enters _ c.requires.0 sized c.enter-first.ensures.at c.enter-first.ensures.enters).1 in
    let a = c.args in
    let w = c.go-went.result in
    let g = c.go-went.ensures in
    record {
      value =
          ap (λ (x : Table). record { table = x; place = w.place; closing = w.closing; read = w.read; done = w.done }) (turned-from _ _ left c.leave-table.ensures)
          ∙ ap over_ran (g.excess_value ∙ ap (λ b. run_of a.piece.now a.most b 0 0 0) same);
      room_after = g.going.1 ∙ ap (λ b. pick a.numbered (put_numbers_from a.piece.now a.most b 0 0 a.room.now) a.room.now) same;
    }
