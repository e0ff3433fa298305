-- `exposure::lists::by_four` meets its contract.
use mathlib.Core.Path.{◌∙◌}
use Prim.Native.Nat.{◌+◌, ◌*◌}
use Rattle.exposure.specs.Exposures.{exposure_of}
use Rattle.exposure.specs.Lists.{figure_at, client_of}
use Rattle.exposure.proofs.Parts.{read_again}
use Rattle.exposure.proofs.lists.by_four.Goals as goal

pub returns : goal.returns
unfolding client_of
returns c =
    let d = c in
    let e = d in
    let b = e in
    let s = b in
    let at = figure_at s.args.figures.now in
    let k = s.args.i in
    c.end_of_day.ensures
    ∙ (λ i. exposure_of
    (read_again (at (4 * k)) b.end_of_day-arg-1.given i)
    (read_again (at (4 * k + 1)) b.end_of_day-arg-2-1.given i)
    (read_again (at (4 * k + 2)) e.end_of_day-arg-3-1.given i)
    (read_again (at (4 * k + 3)) d.end_of_day-arg-4-1.given i))
