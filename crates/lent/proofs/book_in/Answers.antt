-- `lent::book_in` meets its contract.
use mathlib.Core.Bool.{false≢true}
use mathlib.Core.Path.{sym}
use Rattle.lent.proofs.Lent.{other-size, read-tells}
use Rattle.lent.proofs.book_in.Goals as goal

pub returns-then-bytes-ne-SIZE : goal.returns-then-bytes-ne-SIZE
returns-then-bytes-ne-SIZE c = (sym (other-size c.args.bytes.now c.if-bytes-ne-SIZE.true), λ q. absurd (false≢true q))

pub returns : goal.returns
returns c = rw c.read.ensures (read-tells c.args.bytes.now c.if-bytes-ne-SIZE.false)
