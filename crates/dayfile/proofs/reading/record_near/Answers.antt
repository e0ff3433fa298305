-- `dayfile::reading::record_near` meets its contract.
use mathlib.Core.Path.{ap}
use native.Mathlib.Omega.{arith}
use Rattle.dayfile.specs.declared.reading.Places.{Places}
use Rattle.dayfile.proofs.Looking.{record-at}
use Rattle.dayfile.proofs.reading.record_near.Goals as goal

pub amount_near-requires : goal.amount_near-requires
amount_near-requires c = omega (arith, ap (λ (p : Places). p.p0) c.places_of-p.ensures)

pub amount_near-requires-2 : goal.amount_near-requires-2
amount_near-requires-2 c = omega (arith, ap (λ (p : Places). p.p1) c.places_of-p.ensures)

pub amount_near-requires-3 : goal.amount_near-requires-3
amount_near-requires-3 c = omega (arith, ap (λ (p : Places). p.p2) c.places_of-p.ensures)

pub amount_near-requires-4 : goal.amount_near-requires-4
amount_near-requires-4 c = omega (arith, ap (λ (p : Places). p.p3) c.places_of-p.ensures)

pub amount_near-requires-5 : goal.amount_near-requires-5
amount_near-requires-5 c = omega (arith, ap (λ (p : Places). p.p4) c.places_of-p.ensures)

pub amount_near-requires-6 : goal.amount_near-requires-6
amount_near-requires-6 c = omega (arith, ap (λ (p : Places). p.p5) c.places_of-p.ensures)

pub returns : goal.returns
returns c =
    let p = c in
    let a = p.args in
    rw (
      c.number2.ensures,
      c.number2-2.ensures,
      c.amount_near.ensures,
      c.amount_near-2.ensures,
      c.amount_near-3.ensures,
      c.amount_near-4.ensures,
      c.amount_near-5.ensures,
      c.amount_near-6.ensures,
      p.places_of-p.ensures,
    )
    (record-at a.code a.named a.piece.now a.place)
