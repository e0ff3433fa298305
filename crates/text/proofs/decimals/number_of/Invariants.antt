-- `text::decimals::number_of` meets its contract.
use mathlib.Core.Path.{◌≡◌}
use Rattle.text.specs.Decimals.{said, decimal_of}
use lib.ListN.{drop}
use Rattle.text.proofs.decimals.number_of.Given as goal

abbrev pub invariant-loop-byte : goal.invariant-loop-byte
invariant-loop-byte l = decimal_of l.word ≡ said l.n (drop l.byte-index l.word)
