-- `currency::charges::charged` meets its contract.
use Rattle.std.proofs.Common.{◌≡◌, ◌+◌, ◌*◌, ◌≤◌, length}
use Rattle.rows.specs.Rows.{ceiling}
use Rattle.currency.specs.Charges.{first_fault, charges}
use Rattle.currency.proofs.Steps.{ahead}
use Rattle.currency.proofs.charges.charged.Given as goal

abbrev pub invariant-loop-position : goal.invariant-loop-position
invariant-loop-position l =
    let left = ahead l.positions (length l.positions) l.position-index in
    (l.sum ≤ l.position-index * ceiling) × (first_fault left ≡ 0) × (l.sum + charges left ≡ charges l.positions)
