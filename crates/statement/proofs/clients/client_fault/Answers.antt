-- `statement::clients::client_fault` meets its contract.
use mathlib.Core.Path.{ap, ◌∙◌}
use Rattle.rows.specs.Rows.{number_at}
use Rattle.table.specs.Words.{turned_back}
use Rattle.statement.specs.Statements.{total_of}
use Rattle.statement.specs.Inner.{wanted_refusal}
use Rattle.statement.proofs.Turns.{received-within, allocated-within, wanted_by}
use Rattle.statement.proofs.clients.client_fault.Goals as goal

pub total-received-requires : goal.total-received-requires
total-received-requires c = rw c.kinds_at.ensures (received-within c.args.t.now c.requires.0 c.args.i c.requires.1)

pub total-allocated-requires : goal.total-allocated-requires
total-allocated-requires c = rw c.kinds_at-2.ensures (allocated-within c.args.t.now c.requires.0 c.args.i c.requires.1)

pub returns : goal.returns
returns c =
    let a = c.args in
    let received = c.total-received.ensures ∙ ap total_of c.kinds_at.ensures in
    let allocated = c.total-allocated.ensures ∙ ap total_of c.kinds_at-2.ensures in
    c.record_fault.ensures ∙ (λ j. wanted_refusal a.statement.now a.at (number_at (turned_back a.t.now) a.i) (received j) (allocated j))
    ∙ wanted_by a.t.now c.requires.0 a.i c.requires.1 a.statement.now a.at (number_at (turned_back a.t.now) a.i)
