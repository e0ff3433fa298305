-- `passing::limits::left_of` meets its contract.
use Rattle.passing.proofs.limits.left_of.Goals as goal

pub returns : goal.returns
returns c = rw (c.up_to.ensures, c.less.ensures, c.kind_named.ensures, c.kind_named-received.ensures)
