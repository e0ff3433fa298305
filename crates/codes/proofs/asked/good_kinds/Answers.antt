-- `codes::asked::good_kinds` meets its contract.
use Rattle.codes.proofs.asked.good_kinds.Goals as goal

pub returns : goal.returns
returns c = rw (c.good_named.ensures, c.good_named-2.ensures, c.good_named-3.ensures, c.good_named-4.ensures)
