-- `codes::own::retire` meets its contract: 8, then 14 for an amount or a live client, or the mark put.
use mathlib.Core.Bool.{false, not}
use mathlib.Core.Path.{◌≡◌, sym, ap, ◌∙◌}
use native.Mathlib.Omega.{arith}
use borrow.Author.Tests.{eq-eqb, ne_eqb}
use Rattle.sums.proofs.Choices.{or_left, or_right}
use Rattle.rows.specs.Ranges.{no_amounts}
use Rattle.table.proofs.RowsPut.{live-put}
use Rattle.codes.specs.Own.{has_live_client_in, retire_lines}
use Rattle.codes.proofs.Made.{first-line-holds, first-line-fails, no-line-gives-0, opens_not, refused-answers, put-answers}
use Rattle.codes.proofs.own.retire.Goals as goal

pub returns-then-a-eq0 : goal.returns-then-a-eq0
returns-then-a-eq0 c = opens_not 8 (first-line-holds 8 _ _ (eq-eqb _ 0 c.if-a-eq0.true)) (λ z. omega arith)

pub returns-then-not-no_amounts : goal.returns-then-not-no_amounts
returns-then-not-no_amounts c =
    let none_is : not (no_amounts c.row_at-row.result) ≡ not c.no_amounts.result =
    ap not (sym c.no_amounts.ensures)
    in
    let a = c.args in
    refused-answers 14 (λ q. retire_lines q a.a (has_live_client_in a.marks.now a.count a.a)) _ c.row_at-row.ensures
    (first-line-fails 8 _ _ 14 (ne_eqb _ 0 c.if-a-eq0.false) (first-line-holds 14 _ _ (or_left _ (none_is ∙ c.if-not-no_amounts.true-raw)))) (λ z. omega arith)

pub returns-then-has_live_client : goal.returns-then-has_live_client
returns-then-has_live_client c =
    let row-at = c.row_at-row in
    let a = c.args in
    refused-answers 14 (λ q. retire_lines q a.a (has_live_client_in a.marks.now a.count a.a)) _ row-at.ensures
    (first-line-fails 8 _ _ 14 (ne_eqb _ 0 c.if-a-eq0.false) (first-line-holds 14 _ _ (or_right (not (no_amounts row-at.result)) (sym c.has_live_client.ensures ∙ c.if-has_live_client.true)))) (λ z. omega arith)

pub returns : goal.returns
returns c =
    let none_is : not (no_amounts c.row_at-row.result) ≡ not c.no_amounts.result =
    ap not (sym c.no_amounts.ensures)
    in
    let pre = c.requires in
    let a = c.args in
    let m = a.marks.now in
    put-answers (λ q. retire_lines q a.a (has_live_client_in m a.count a.a)) _ c.row_at-row.ensures
    (first-line-fails 8 _ _ 0 (ne_eqb _ 0 c.if-a-eq0.false) (first-line-fails 14 _ _ 0 (rw (none_is ∙ c.if-not-no_amounts.false-raw) (sym c.has_live_client.ensures ∙ c.if-has_live_client.false)) no-line-gives-0))
    (rw c.with_live-gone.ensures (live-put m a.w.now a.a pre.0 pre.1 false))
