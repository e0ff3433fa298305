-- `currency::charges::first_fault` meets its contract.
use Rattle.std.proofs.Common.{◌≡◌, length}
use Rattle.currency.specs.Charges.{first_fault}
use Rattle.currency.proofs.Steps.{ahead}
use Rattle.currency.proofs.charges.first_fault.Given as goal

abbrev pub invariant-loop-position : goal.invariant-loop-position
invariant-loop-position l = first_fault l.positions ≡ first_fault (ahead l.positions (length l.positions) l.position-index)
