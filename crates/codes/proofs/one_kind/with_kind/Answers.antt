-- `codes::one_kind::with_kind` meets its contract.
use mathlib.Core.Path.{sym, ap}
use Rattle.codes.specs.OneKind.{with_kind}
use Rattle.codes.proofs.one_kind.with_kind.Goals as goal

pub returns-in-Cash : goal.returns-in-Cash
returns-in-Cash c = let a = c.args in ap (λ q. with_kind a.k q a.x) (sym c.in-Cash.is)

pub returns-in-Deposits : goal.returns-in-Deposits
returns-in-Deposits c = let a = c.args in ap (λ q. with_kind a.k q a.x) (sym c.in-Deposits.is)

pub returns-in-Guarantees : goal.returns-in-Guarantees
returns-in-Guarantees c = let a = c.args in ap (λ q. with_kind a.k q a.x) (sym c.in-Guarantees.is)

pub returns-in-Securities : goal.returns-in-Securities
returns-in-Securities c = let a = c.args in ap (λ q. with_kind a.k q a.x) (sym c.in-Securities.is)
