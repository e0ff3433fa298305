-- `exposure::lists::by_two` meets its contract.
use mathlib.Core.Path.{◌∙◌}
use Prim.Native.Nat.{◌+◌, ◌*◌}
use Rattle.exposure.specs.Exposures.{intraday_of}
use Rattle.exposure.specs.Lists.{figure_at, client_of}
use Rattle.exposure.proofs.Parts.{read_again}
use Rattle.exposure.proofs.lists.by_two.Goals as goal

pub returns : goal.returns
unfolding client_of
returns c =
    let b = c in
    let s = b in
    let at = figure_at s.args.figures.now in
    let k = s.args.i in
    c.intraday.ensures ∙ (λ i. intraday_of (read_again (at (2 * k)) b.intraday-arg-1.given i) (read_again (at (2 * k + 1)) b.intraday-arg-2-1.given i))
