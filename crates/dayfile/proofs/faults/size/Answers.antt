-- `dayfile::faults::size` meets its contract: a byte has at most eight ones, so nothing wraps.
use native.Mathlib.Omega.{arith}
use lib.Count.{ones-le}
use Rattle.dayfile.proofs.faults.size.Goals as goal

pub overflow_cast-n : goal.overflow_cast-n
overflow_cast-n c = omega (arith, ones-le 8 c.args.named c.ranges.named.fits)

pub overflow_mul-result : goal.overflow_mul-result
overflow_mul-result c = omega (arith, ones-le 8 c.args.named c.ranges.named.fits)

pub overflow_add-result : goal.overflow_add-result
overflow_add-result c = omega (arith, ones-le 8 c.args.named c.ranges.named.fits)
