-- `bookfile::forms::sort_at` meets its contract.
use mathlib.Core.Path.{refl}
use native.Mathlib.Omega.{arith}
use Rattle.bookfile.proofs.forms.sort_at.Goals as goal

pub returns-in-One : goal.returns-in-One
returns-in-One c = rw c.in-One.is (refl, omega arith)

pub returns-in-Two : goal.returns-in-Two
returns-in-Two c = rw c.in-Two.is (refl, omega arith)
