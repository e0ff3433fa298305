use Rattle.report.proofs.HoldingLines.{seen-enough, in-excess}
use Rattle.report.proofs.holding.excess_under.Goals as goal

pub deemed_under-requires : goal.deemed_under-requires
deemed_under-requires c = let h = seen-enough c.args.t c.requires in (h.0, h.1, c.zeros-excess.ensures)

pub returns : goal.returns
returns c = (in-excess c.args.t c.requires _ c.deemed_under.ensures, c.deemed_under.ensures.size)
