-- `merging::look` meets its contract. The invariant: the records so far and those from the place on are the file's.
use Rattle.std.proofs.Common.{ℕ, Some, sym, refl, ap, ◌∙◌, arith}
use Rattle.dayfile.specs.Reading.{number_of}
use Rattle.merging.proofs.Listing.{look-ends, look-stops, look-on, good-at}
use Rattle.merging.proofs.look.Goals as goal

pub loop-place-init : goal.loop-place-init
loop-place-init c = (refl, omega arith, omega arith)

pub returns-then-refusal-ne0 : goal.returns-then-refusal-ne0
returns-then-refusal-ne0 c =
    let n = c.number_of-refusal.ensures ∙ ap number_of c.read_at.ensures.value in
    let l = c.loop-place in
    ap (λ (k : ℕ). Some (record { index = l.index; refusal = k })) n ∙ look-stops _ _ _ l.invariant.0 (omega arith) (λ z. c.if-refusal-ne0.true (n ∙ z))

pub bounds-file-place : goal.bounds-file-place
bounds-file-place c =
    let n = c.number_of-refusal.ensures ∙ ap number_of c.read_at.ensures.value in
    let g = good-at _ _ (omega arith) (sym n ∙ c.if-refusal-ne0.false) in
    omega (arith, g.within)

pub overflow_add-place-in-loop-place : goal.overflow_add-place-in-loop-place
overflow_add-place-in-loop-place c =
    let n = c.number_of-refusal.ensures ∙ ap number_of c.read_at.ensures.value in
    let g = good-at _ _ (omega arith) (sym n ∙ c.if-refusal-ne0.false) in
    omega (arith, g.within, c.size-place.ensures)

pub loop-place-smaller : goal.loop-place-smaller
loop-place-smaller c =
    let n = c.number_of-refusal.ensures ∙ ap number_of c.read_at.ensures.value in
    let g = good-at _ _ (omega arith) (sym n ∙ c.if-refusal-ne0.false) in
    omega (arith, g.within, c.size-place.ensures)

pub loop-place-preserved : goal.loop-place-preserved
loop-place-preserved c =
    let n = c.number_of-refusal.ensures ∙ ap number_of c.read_at.ensures.value in
    let g = good-at _ _ (omega arith) (sym n ∙ c.if-refusal-ne0.false) in
    let l = c.loop-place in
    (rw c.size-place.ensures (look-on _ _ _ l.invariant.0 (omega arith) (sym n ∙ c.if-refusal-ne0.false)), omega arith, omega (arith, g.within, c.size-place.ensures))

pub returns : goal.returns
returns c = look-ends _ _ _ c.loop-place.invariant.0 (omega arith)
