use Rattle.std.proofs.Common.{◌≤◌, ◌*◌, length, replicate, ap, sym, arith}
use lib.Seq.{length-take-le}
use Rattle.table.specs.Words.{turned_back}
use Rattle.archival.specs.declared.Archived.{Archived}
use Rattle.archive.proofs.Fits.{moved-fits}
use Rattle.archive.proofs.archive.Goals as goal

pub slice_bounds-entries-end : goal.slice_bounds-entries-end
slice_bounds-entries-end c =
    let a = c.archive-archived in
    let f : 3 * c.from-n.result ≤ length a.new.room = omega (arith, c.from-n.ensures, ap (λ (x : Archived). x.moved) a.ensures.value, moved-fits (turned_back c.args.t) (replicate 768 0), a.auto.room) in
    f

pub slice_bounds-fails-end : goal.slice_bounds-fails-end
slice_bounds-fails-end c =
    let a = c.archive-archived in
    let f : 3 * c.from-n.result ≤ length a.new.room = omega (arith, c.from-n.ensures, ap (λ (x : Archived). x.moved) a.ensures.value, moved-fits (turned_back c.args.t) (replicate 768 0), a.auto.room) in
    sym (length-take-le _ _ f)
