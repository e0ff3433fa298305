-- `merging::merge` meets its contract.
use Rattle.std.proofs.Common.{sym, ◌∙◌, arith}
use Rattle.text.proofs.Puts.{puts-length, and_then, puts-at-start}
use Rattle.merging.proofs.Answers.{stops-nowhere, stops-at, at_a, at_b, too_short, ready, both-written}
use Rattle.merging.proofs.merge.Goals as goal

pub returns-in-Some : goal.returns-in-Some
returns-in-Some c =
    let f = stops-at _ 1 (sym c.in-Some.is ∙ c.look.ensures) in
    let x = at_a _ _ _ _ f.0 in
    record { value = c.refused.ensures ∙ f.1 ∙ x.answer; room_after = x.held }

pub returns-in-Some-look : goal.returns-in-Some-look
returns-in-Some-look c =
    let f = stops-at _ 2 (sym c.in-Some-look.is ∙ c.look-2.ensures) in
    let x = at_b _ _ _ _ (stops-nowhere _ (sym c.in_default.is ∙ c.look.ensures)) f.0 in
    record { value = c.refused-in-Some-look.ensures ∙ f.1 ∙ x.answer; room_after = x.held }

pub returns-then-room-a : goal.returns-then-room-a
returns-then-room-a c =
    let x = too_short _ _ _ c.args.room.now (stops-nowhere _ (sym c.in_default.is ∙ c.look.ensures))
    (stops-nowhere _ (sym c.in_default-look.is ∙ c.look-2.ensures))
    (λ i. (c.type_inv.a i).fits)
    (λ i. (c.type_inv.b i).fits) (omega arith) in
    record { value = c.refused-then-room-a.ensures ∙ x.answer; room_after = x.held }

pub returns-then-room-a-2 : goal.returns-then-room-a-2
returns-then-room-a-2 c =
    let x = too_short _ _ _ c.args.room.now (stops-nowhere _ (sym c.in_default.is ∙ c.look.ensures))
    (stops-nowhere _ (sym c.in_default-look.is ∙ c.look-2.ensures))
    (λ i. (c.type_inv.a i).fits)
    (λ i. (c.type_inv.b i).fits) (omega arith) in
    record { value = c.refused-then-room-a-2.ensures ∙ x.answer; room_after = x.held }

pub renumber-requires : goal.renumber-requires
renumber-requires c =
    let p = puts-at-start (and_then _ _ c.put_text-place.ensures c.put_text-length.ensures) in (
      omega (arith, c.put_text-length.ensures.within),
      ready _ _ 0 _ (stops-nowhere _ (sym c.in_default.is ∙ c.look.ensures))
          (stops-nowhere _ (sym c.in_default-look.is ∙ c.look-2.ensures))
          (λ i. (c.type_inv.a i).fits)
          (λ i. (c.type_inv.b i).fits) _ _ p.0 p.1,
    )

pub returns : goal.returns
returns c =
    let p = puts-at-start (and_then _ _ c.put_text-place.ensures c.put_text-length.ensures) in
    let x = both-written _ _ _ _ (stops-nowhere _ (sym c.in_default.is ∙ c.look.ensures))
    (stops-nowhere _ (sym c.in_default-look.is ∙ c.look-2.ensures))
    (λ i. (c.type_inv.a i).fits)
    (λ i. (c.type_inv.b i).fits) _ _ p.0 p.1 (omega (arith, c.put_text-length.ensures.within, puts-length c.put_text-place.ensures)) _ c.renumber.ensures in
    record { value = x.answer; room_after = x.held }
