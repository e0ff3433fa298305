-- `text::put_spaced` meets its contract: all numbers but the last, then the last.
use native.Mathlib.Omega.{arith}
use Rattle.text.proofs.Lists.{number-last}
use Rattle.text.proofs.put_spaced.Goals as goal

pub returns : goal.returns
returns c =
    let e = c in
    record { puts = number-last _ _ (omega arith) e.put_each-place.ensures.puts c.put_number.ensures.puts; upper_bound = omega arith }
