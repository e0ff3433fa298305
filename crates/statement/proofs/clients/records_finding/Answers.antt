-- `statement::clients::records_finding` meets its contract: what is left of the clients and of the bytes gives what all of them give.
use mathlib.Core.Path.{sym, ap, ◌∙◌}
use native.Mathlib.Nat.{sub-zero}
use native.Mathlib.Omega.{arith}
use Rattle.table.specs.Words.{turned_back}
use Rattle.statement.specs.Statements.{clients_from, finding_from}
use Rattle.statement.proofs.Turns.{passed_by, its-end, stops, goes_on, ends-surplus, ends-clear}
use Rattle.statement.proofs.clients.records_finding.Goals as goal
use Rattle.statement.proofs.clients.records_finding.Goals.{then-is_live_client+else-refusal-ne0, else-is_live_client}

pub loop-i-init : goal.loop-i-init
loop-i-init c =
    let a = c.args in
    let b = turned_back a.t.now in
    record { inside = omega arith; low = omega arith; gives = ap (λ n. finding_from b 0 (clients_from b a.tm n 0) a.statement.now) (sym (sub-zero a.t.now.count)) }

pub is_live_client-requires : goal.is_live_client-requires
is_live_client-requires c = omega (arith, c.requires.most)

pub client_fault-refusal-requires : goal.client_fault-refusal-requires
client_fault-refusal-requires c = (c.requires, c.loop-i-test.true, c.loop-i.invariant.inside)

pub returns-then-refusal-ne0 : goal.returns-then-refusal-ne0
returns-then-refusal-ne0 c =
    c.found.ensures
    ∙ stops (turned_back c.args.t.now) c.args.tm c.args.statement.now c.loop-i.invariant c.loop-i-test.true (sym c.is_live_client.ensures ∙ c.if-is_live_client.true) c.client_fault-refusal.ensures c.if-refusal-ne0.true

pub size_at-at-requires : goal.size_at-at-requires
size_at-at-requires c =
    let h = its-end (turned_back c.args.t.now) c.args.tm c.args.statement.now c.loop-i.invariant c.loop-i-test.true (sym c.client_fault-refusal.ensures ∙ c.if-refusal-ne0.false) in omega (arith, h)

pub overflow_add-at : goal.overflow_add-at
overflow_add-at c =
    let h = its-end (turned_back c.args.t.now) c.args.tm c.args.statement.now c.loop-i.invariant c.loop-i-test.true (sym c.client_fault-refusal.ensures ∙ c.if-refusal-ne0.false) in omega (arith, h, c.size_at-at.ensures)

pub loop-i-preserved : goal.loop-i-preserved
loop-i-preserved c =
    let b = turned_back c.args.t.now in
    let tm = c.args.tm in
    let s = c.args.statement.now in
    let l = c.loop-i in
    elim c.if-is_live_client.branch [
      | then-is_live_client+else-refusal-ne0 w ↦
          rw (w.index-is, w.at-is, w.size_at-at.ensures)
          (goes_on b tm s l.invariant c.loop-i-test.true (sym c.is_live_client.ensures ∙ w.if-is_live_client.true) (sym w.client_fault-refusal.ensures ∙ w.if-refusal-ne0.false))
      | else-is_live_client w ↦ rw (w.index-is, w.at-is) (passed_by b tm s l.invariant c.loop-i-test.true (sym c.is_live_client.ensures ∙ w.if-is_live_client.false))
    ]

pub returns-then-at-statement : goal.returns-then-at-statement
returns-then-at-statement c =
    c.found-then-at-statement.ensures
    ∙ ends-surplus (turned_back c.args.t.now) c.args.tm c.args.statement.now c.loop-i.invariant c.loop-i-test.false c.if-at-statement.true c.surplus_fault.ensures

pub returns : goal.returns
returns c =
    c.found-2.ensures ∙ ends-clear (turned_back c.args.t.now) c.args.tm c.args.statement.now c.loop-i.invariant c.loop-i-test.false c.if-at-statement.false
