-- `codes::settling::deemed_under_after` meets its contract.
use native.Mathlib.Omega.{arith}
use Rattle.codes.proofs.settling.deemed_under_after.Goals as goal

pub deemed_under_tm-requires : goal.deemed_under_tm-requires
deemed_under_tm-requires c = (c.requires.4, c.requires.1)

pub deemed_under_cm-requires : goal.deemed_under_cm-requires
deemed_under_cm-requires c =
    let p = c.requires in
    record { margin_bound = (p.3, p.4, p.5); under_bound = (p.0, p.1, omega (arith, p.2)) }

pub returns : goal.returns
returns c = rw (c.deemed_under_tm.ensures, c.deemed_under_cm.ensures)
