-- `steps::entry::enter` meets its contract.
use Rattle.std.proofs.Common.{refl}
use borrow.Author.Rules.{rules}
use Rattle.steps.proofs.entry.enter.Goals as goal

pub collaterals-l-requires : goal.collaterals-l-requires
collaterals-l-requires c = c.requires.ranging

pub deemed_under-requires : goal.deemed_under-requires
deemed_under-requires c = let h = c.requires in (h.ranged, h.shaped, refl)

pub look_all-l-requires : goal.look_all-l-requires
look_all-l-requires c = let h = c.requires in record { ranged = (h.ranged, h.shaped); none_beyond = (h.beyond, c.deemed_under.ensures) }

pub returns-clause-enters : goal.returns-clause-enters
returns-clause-enters c = record { keeps = c.collaterals-l.ensures; in-excess = c.deemed_under.ensures; looks = c.look_all-l.ensures; many = search rules; wide = search rules; rest = refl }
