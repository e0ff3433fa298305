-- `statement::records::form_fault` meets its contract.
use mathlib.Core.Path.{sym, ap, ◌∙◌}
use Prim.Native.Nat.{◌+◌}
use native.Mathlib.Omega.{arith}
use lib.ListN.{get_or}
use Rattle.statement.specs.Forms.{bad_amounts}
use Rattle.statement.proofs.Reading.{form-24, form-25, form-0, whole-at}
use Rattle.statement.proofs.records.form_fault.Goals as goal

pub returns-then-not_whole : goal.returns-then-not_whole
returns-then-not_whole c = let a = c.args in form-24 a.piece.now a.place (sym c.not_whole.ensures ∙ c.if-not_whole.true)

pub bounds-piece-place : goal.bounds-piece-place
bounds-piece-place c =
    let whole = whole-at c.args.piece.now c.args.place (sym c.not_whole.ensures ∙ c.if-not_whole.false) c.requires in omega (arith, whole.0)

pub parts_at-p-requires : goal.parts_at-p-requires
parts_at-p-requires c =
    whole-at c.args.piece.now c.args.place (sym c.not_whole.ensures ∙ c.if-not_whole.false) c.requires

pub returns-then-bad_amounts : goal.returns-then-bad_amounts
returns-then-bad_amounts c =
    let a = c.args in
    form-25 a.piece.now a.place (sym c.not_whole.ensures ∙ c.if-not_whole.false)
    (ap (bad_amounts (get_or a.piece.now (a.place + 1) 0)) (sym c.parts_at-p.ensures) ∙ sym c.bad_amounts.ensures ∙ c.if-bad_amounts.true)

pub returns : goal.returns
returns c =
    let a = c.args in
    form-0 a.piece.now a.place (sym c.not_whole.ensures ∙ c.if-not_whole.false)
    (ap (bad_amounts (get_or a.piece.now (a.place + 1) 0)) (sym c.parts_at-p.ensures) ∙ sym c.bad_amounts.ensures ∙ c.if-bad_amounts.false)
