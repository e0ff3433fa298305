-- `dayfile::reading::record_at` meets its contract.
use mathlib.Core.Path.{ap, ◌∙◌}
use native.Mathlib.Omega.{arith}
use Rattle.dayfile.proofs.Marks.{bit-lt, ones-bits}
use Rattle.dayfile.proofs.Amounts.{number_bit}
use Rattle.dayfile.specs.declared.reading.Places.{Places}
use Rattle.dayfile.proofs.Looking.{record-at}
use Rattle.dayfile.proofs.reading.record_at.Goals as goal

pub number8_if-requires : goal.number8_if-requires
number8_if-requires c =
    let p = c in
    let s = p in
    (omega (arith, ap (λ (q : Places). q.p0) p.places_of-p.ensures, ones-bits s.args.named, s.requires), bit-lt 0 s.args.named)

pub number8_if-requires-2 : goal.number8_if-requires-2
number8_if-requires-2 c =
    let p = c in
    let s = p in
    (omega (arith, ap (λ (q : Places). q.p1) p.places_of-p.ensures, ones-bits s.args.named, s.requires), bit-lt 1 s.args.named)

pub number8_if-requires-3 : goal.number8_if-requires-3
number8_if-requires-3 c =
    let p = c in
    let s = p in
    (omega (arith, ap (λ (q : Places). q.p2) p.places_of-p.ensures, ones-bits s.args.named, s.requires), bit-lt 2 s.args.named)

pub number8_if-requires-4 : goal.number8_if-requires-4
number8_if-requires-4 c =
    let p = c in
    let s = p in
    (omega (arith, ap (λ (q : Places). q.p3) p.places_of-p.ensures, ones-bits s.args.named, s.requires), bit-lt 3 s.args.named)

pub number8_if-requires-5 : goal.number8_if-requires-5
number8_if-requires-5 c =
    let p = c in
    let s = p in
    (omega (arith, ap (λ (q : Places). q.p4) p.places_of-p.ensures, ones-bits s.args.named, s.requires), bit-lt 4 s.args.named)

pub number8_if-requires-6 : goal.number8_if-requires-6
number8_if-requires-6 c =
    let p = c in
    let s = p in
    (omega (arith, ap (λ (q : Places). q.p5) p.places_of-p.ensures, ones-bits s.args.named, s.requires), bit-lt 5 s.args.named)

pub returns : goal.returns
returns c =
    let p = c in
    let a = p.args in
    rw (
      c.number2.ensures,
      c.number2-2.ensures,
      c.number8_if.ensures ∙ number_bit 0 a.named _,
      c.number8_if-2.ensures ∙ number_bit 1 a.named _,
      c.number8_if-3.ensures ∙ number_bit 2 a.named _,
      c.number8_if-4.ensures ∙ number_bit 3 a.named _,
      c.number8_if-5.ensures ∙ number_bit 4 a.named _,
      c.number8_if-6.ensures ∙ number_bit 5 a.named _,
      p.places_of-p.ensures,
    )
    (record-at a.code a.named a.piece.now a.place)
