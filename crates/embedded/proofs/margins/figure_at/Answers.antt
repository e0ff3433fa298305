-- `embedded::margins::figure_at` meets its contract.
use mathlib.Core.Path.{sym}
use native.Mathlib.Omega.{arith}
use lib.ListN.{get_or-eq_default}
use Rattle.embedded.proofs.margins.figure_at.Goals as goal

pub returns-else-i-figures : goal.returns-else-i-figures
returns-else-i-figures c = sym (get_or-eq_default c.args.figures.now _ {n = c.args.i} (omega arith))
