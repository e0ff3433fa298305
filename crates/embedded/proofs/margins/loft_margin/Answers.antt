-- `embedded::margins::loft_margin` meets its contract.
use mathlib.Core.Bool.{true}
use mathlib.Core.Path.{◌≡◌, refl, sym, ap, ◌∙◌}
use borrow.Author.Tests.{eq-eqb, ne_eqb, not-true, not-false}
use lib.ListN.{length}
use Rattle.sums.proofs.Choices.{pick_first, pick_second, and-join, and-left-fails, and-right-fails}
use Rattle.currency.specs.Margins.{number_made}
use Rattle.embedded.specs.Margins.{are_positions, are_many, fits, room_made, margin_refusal, margin_room}
use Rattle.embedded.proofs.Making.{lengths, put}
use Rattle.embedded.proofs.margins.loft_margin.Goals as goal

pub returns-then-not-are_positions : goal.returns-then-not-are_positions
unfolding margin_refusal margin_room
returns-then-not-are_positions c =
    let no = and-left-fails _ _ (sym c.are_positions.ensures ∙ not-true _ c.if-not-are_positions.true-raw) in
    record { value = pick_second _ no refl; record_after = pick_second _ no refl }

pub returns-then-not-are_many : goal.returns-then-not-are_many
unfolding margin_refusal margin_room
returns-then-not-are_many c =
    let a = c.args in
    let no = and-right-fails (are_positions a.products.now a.sides.now a.notionals.now) _ (and-left-fails _ _ (sym c.are_many.ensures ∙ not-true _ c.if-not-are_many.true-raw)) in
    record { value = pick_second _ no refl; record_after = pick_second _ no refl }

pub returns-then-record-ne14 : goal.returns-then-record-ne14
unfolding margin_refusal margin_room
returns-then-record-ne14 c =
    let a = c.args in
    let no = and-right-fails (are_positions a.products.now a.sides.now a.notionals.now) _ (and-right-fails (are_many (length a.figures.now)) _ (ne_eqb _ _ c.if-record-ne14.true)) in
    record { value = pick_second _ no refl; record_after = pick_second _ no refl }

pub made_in-made-requires : goal.made_in-made-requires
made_in-made-requires c =
    let positions : are_positions c.args.products.now c.args.sides.now c.args.notionals.now ≡ true =
    sym c.are_positions.ensures ∙ not-false _ c.if-not-are_positions.false-raw
    in let a = c.args in lengths a.products.now a.sides.now a.notionals.now positions

pub returns-in-Refused : goal.returns-in-Refused
unfolding margin_refusal margin_room
returns-in-Refused c =
    let positions : are_positions c.args.products.now c.args.sides.now c.args.notionals.now ≡ true =
    sym c.are_positions.ensures ∙ not-false _ c.if-not-are_positions.false-raw
    in
    let fit : fits c.args.products.now c.args.sides.now c.args.notionals.now c.args.figures.now c.args.«record».now ≡ true =
    and-join positions (and-join (sym c.are_many.ensures ∙ not-false _ c.if-not-are_many.false-raw) (eq-eqb _ _ c.if-record-ne14.false))
    in
    let m = c in
    let q = sym c.in-Refused.is ∙ m.made_in-made.ensures in
    let yes = fit in
    record { value = pick_first 15 yes (ap number_made q); record_after = pick_first _ yes (ap (λ x. room_made x m.args.«record».now) q) }

pub returns-in-Given : goal.returns-in-Given
unfolding margin_refusal margin_room
returns-in-Given c =
    let positions : are_positions c.args.products.now c.args.sides.now c.args.notionals.now ≡ true =
    sym c.are_positions.ensures ∙ not-false _ c.if-not-are_positions.false-raw
    in
    let fit : fits c.args.products.now c.args.sides.now c.args.notionals.now c.args.figures.now c.args.«record».now ≡ true =
    and-join positions (and-join (sym c.are_many.ensures ∙ not-false _ c.if-not-are_many.false-raw) (eq-eqb _ _ c.if-record-ne14.false))
    in
    let m = c in
    let p = m in
    let a = p.args in
    let q = sym c.in-Given.is ∙ m.made_in-made.ensures in
    let w = put a.products.now a.sides.now a.notionals.now a.serial a.account a.initial a.figures.now _ (sym q) a.«record».now p.if-record-ne14.false in
    record { value = pick_first 15 fit (ap number_made q); record_after = pick_first _ fit (c.write.ensures.room_after ∙ w ∙ ap (λ x. room_made x a.«record».now) q) }
