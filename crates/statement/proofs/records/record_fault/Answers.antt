-- `statement::records::record_fault` meets its contract.
use mathlib.Core.Path.{sym, ap, ◌∙◌}
use native.Mathlib.Omega.{arith}
use lib.ListN.{drop}
use Rattle.sums.specs.Table.{first}
use Rattle.statement.specs.Forms.{set_in}
use Rattle.statement.specs.Statements.{sum_faults}
use Rattle.statement.proofs.Bodies.{parts-fit}
use Rattle.statement.proofs.Reading.{set_at, parts-in-at, form-clear, whole-at, wanted-end, wanted-form, wanted-26, wanted-sum}
use Rattle.statement.proofs.records.record_fault.Goals as goal

pub returns-then-piece-place : goal.returns-then-piece-place
returns-then-piece-place c = let a = c.args in wanted-end a.piece.now a.place a.account a.received a.allocated c.if-piece-place.true

pub returns-then-fault-ne0 : goal.returns-then-fault-ne0
returns-then-fault-ne0 c =
    let a = c.args in
    wanted-form a.piece.now a.place a.account a.received a.allocated c.if-piece-place.false _ c.form_fault-fault.ensures c.if-fault-ne0.true

pub number2-requires : goal.number2-requires
number2-requires c =
    let whole = whole-at c.args.piece.now c.args.place (form-clear c.args.piece.now c.args.place (sym c.form_fault-fault.ensures ∙ c.if-fault-ne0.false)).0 c.requires in omega (arith, whole.0)

pub returns-then-number2-account : goal.returns-then-number2-account
returns-then-number2-account c =
    let a = c.args in
    wanted-26 a.piece.now a.place a.account a.received a.allocated c.if-piece-place.false _ c.form_fault-fault.ensures c.if-fault-ne0.false
    (λ e. c.if-number2-account.true (c.number2.ensures ∙ e))

pub bounds-piece-place : goal.bounds-piece-place
bounds-piece-place c =
    let whole = whole-at c.args.piece.now c.args.place (form-clear c.args.piece.now c.args.place (sym c.form_fault-fault.ensures ∙ c.if-fault-ne0.false)).0 c.requires in omega (arith, whole.0)

pub parts_at-p-requires : goal.parts_at-p-requires
parts_at-p-requires c =
    let whole = whole-at c.args.piece.now c.args.place (form-clear c.args.piece.now c.args.place (sym c.form_fault-fault.ensures ∙ c.if-fault-ne0.false)).0 c.requires in (whole.0, whole.1)

pub sum_fault-requires : goal.sum_fault-requires
sum_fault-requires c =
    let whole = whole-at c.args.piece.now c.args.place (form-clear c.args.piece.now c.args.place (sym c.form_fault-fault.ensures ∙ c.if-fault-ne0.false)).0 c.requires in
    let a = c.args in
    let clear = form-clear a.piece.now a.place (sym c.form_fault-fault.ensures ∙ c.if-fault-ne0.false) in
    rw (c.parts_at-p.ensures, parts-in-at a.piece.now a.place)
    (parts-fit (set_in (drop a.place a.piece.now)) (drop 4 (drop a.place a.piece.now)) (rw (set_at a.piece.now a.place) whole.1) clear.1)

pub returns : goal.returns
returns c =
    let a = c.args in
    wanted-sum a.piece.now a.place a.account a.received a.allocated c.if-piece-place.false _ c.form_fault-fault.ensures c.if-fault-ne0.false
    (sym c.number2.ensures ∙ c.if-number2-account.false) _
    (c.sum_fault.ensures ∙ ap (λ p. first (sum_faults p a.received a.allocated)) c.parts_at-p.ensures)
