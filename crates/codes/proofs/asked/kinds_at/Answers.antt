-- `codes::asked::kinds_at` meets its contract.
use native.Mathlib.Omega.{arith}
use Rattle.dayfile.proofs.Marks.{bit-lt, ones-bits}
use Rattle.codes.proofs.Heading.{kinds-read}
use Rattle.codes.proofs.asked.kinds_at.Goals as goal

pub returns-then-piece-place-ge38 : goal.returns-then-piece-place-ge38
returns-then-piece-place-ge38 c =
    let s = c in
    rw (c.amount_near.ensures, c.amount_near-then-piece-place-ge38.ensures, c.amount_near-then-piece-place-ge38-2.ensures, c.amount_near-then-piece-place-ge38-3.ensures) (kinds-read _ s.args.place s.args.h)

pub number8_if-requires : goal.number8_if-requires
number8_if-requires c =
    let s = c in
    (omega (arith, ones-bits s.args.h.named, s.requires.whole), bit-lt 0 s.args.h.named)

pub number8_if-requires-2 : goal.number8_if-requires-2
number8_if-requires-2 c =
    let s = c in
    (omega (arith, ones-bits s.args.h.named, s.requires.whole), bit-lt 1 s.args.h.named)

pub number8_if-requires-3 : goal.number8_if-requires-3
number8_if-requires-3 c =
    let s = c in
    (omega (arith, ones-bits s.args.h.named, s.requires.whole), bit-lt 2 s.args.h.named)

pub number8_if-requires-4 : goal.number8_if-requires-4
number8_if-requires-4 c =
    let s = c in
    (omega (arith, ones-bits s.args.h.named, s.requires.whole), bit-lt 3 s.args.h.named)

pub returns : goal.returns
returns c =
    let s = c in
    rw (c.number8_if.ensures, c.number8_if-2.ensures, c.number8_if-3.ensures, c.number8_if-4.ensures) (kinds-read _ s.args.place s.args.h)
