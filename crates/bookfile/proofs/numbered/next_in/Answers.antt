-- `bookfile::numbered::next_in` meets its contract.
use native.Mathlib.Omega.{arith}
use Rattle.bookfile.proofs.Measures.{head-within}
use Rattle.bookfile.proofs.numbered.next_in.Goals as goal

pub number4-requires : goal.number4-requires
number4-requires c = omega (arith, head-within c.args.v)

pub returns-in-One : goal.returns-in-One
returns-in-One c = rw c.in-One.is

pub returns-in-Two : goal.returns-in-Two
returns-in-Two c = rw c.in-Two.is c.number4.ensures
