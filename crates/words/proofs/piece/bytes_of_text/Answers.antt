-- `words::bytes_of_text` meets its contract. The invariant: so many lines were taken, what they mean stands in the room, and what is left is taken from the place on.
use Rattle.std.proofs.Common.{arith}
use Rattle.words.proofs.LinesAt.{line-more, line-within}
use Rattle.words.proofs.Taking.{as-told}
use Rattle.words.proofs.TextPieces.{text-started, text-over, text-room, text-fits, text-wait, text-enough, text-failed, text-went}
use Rattle.words.proofs.piece.bytes_of_text.Goals as goal

pub loop-place-init : goal.loop-place-init
loop-place-init c = let a = c.args in (text-started a.text.now a.last a.running a.room.now, omega arith, omega arith)

pub overflow_sub-whole : goal.overflow_sub-whole
overflow_sub-whole c =
    let l = c in
    omega (arith, line-more l.args.text.now l.loop-place.place _ c.loop-place-test.true c.line_end-end.ensures)

pub bounds-text-end : goal.bounds-text-end
bounds-text-end c =
    let e = c in
    let l = e in
    let s = l.args.text.now in
    omega (arith, line-more s l.loop-place.place _ e.loop-place-test.true e.line_end-end.ensures, line-within s l.loop-place.place _ e.loop-place-test.true e.line_end-end.ensures)

pub overflow_sub-room : goal.overflow_sub-room
overflow_sub-room c = let l = c in text-fits l.loop-place.invariant.0

pub shape_of-room-then-whole-room : goal.shape_of-room-then-whole-room
shape_of-room-then-whole-room c = let l = c in text-room l.loop-place.invariant.0

pub returns-then-whole-room : goal.returns-then-whole-room
returns-then-whole-room c =
    let e = c in
    let l = e in
    let whole = as-told c.told.ensures (text-wait l.loop-place.invariant.0 e.loop-place-test.true e.line_end-end.ensures c.if-whole-room.true) in
    record { value = whole.0; room_after = whole.1 }

pub slice_bounds-line_into-count : goal.slice_bounds-line_into-count
slice_bounds-line_into-count c =
    let e = c in
    let l = e in
    omega (arith, line-more l.args.text.now l.loop-place.place _ e.loop-place-test.true e.line_end-end.ensures)

pub slice_bounds-line_into-start : goal.slice_bounds-line_into-start
slice_bounds-line_into-start c =
    let e = c in
    let l = e in
    omega (arith, line-more l.args.text.now l.loop-place.place _ e.loop-place-test.true e.line_end-end.ensures)

pub slice_bounds-line_into-end : goal.slice_bounds-line_into-end
slice_bounds-line_into-end c =
    let e = c in
    let l = e in
    line-within l.args.text.now l.loop-place.place _ e.loop-place-test.true e.line_end-end.ensures

pub line_into-requires : goal.line_into-requires
line_into-requires c =
    let i = c in
    let e = i in
    let l = e in
    text-enough l.loop-place.invariant.0 e.loop-place-test.true e.line_end-end.ensures i.if-whole-room.false

pub shape_of-room-in-Err : goal.shape_of-room-in-Err
shape_of-room-in-Err c =
    let d = c in
    let l = d in
    omega (arith, d.line_into.auto.room, text-room l.loop-place.invariant.0)

pub returns-in-Err : goal.returns-in-Err
returns-in-Err c =
    let d = c in
    let i = d in
    let e = i in
    let l = e in
    let whole = as-told c.told-in-Err.ensures
    (text-failed l.loop-place.invariant.0 e.loop-place-test.true e.line_end-end.ensures i.if-whole-room.false d.line_into.ensures c.in-Err.is) in
    record { value = whole.0; room_after = whole.1 }

pub overflow_add-lines : goal.overflow_add-lines
overflow_add-lines c =
    let e = c in
    let l = e in
    omega (arith, l.loop-place.invariant.1, line-within l.args.text.now l.loop-place.place _ e.loop-place-test.true e.line_end-end.ensures, line-more l.args.text.now l.loop-place.place _ e.loop-place-test.true e.line_end-end.ensures)

pub loop-place-smaller : goal.loop-place-smaller
loop-place-smaller c =
    let d = c in
    let e = d in
    let l = e in
    omega (arith, line-more _ l.loop-place.place _ e.loop-place-test.true e.line_end-end.ensures, line-within _ l.loop-place.place _ e.loop-place-test.true e.line_end-end.ensures)

pub loop-place-preserved : goal.loop-place-preserved
loop-place-preserved c =
    let d = c in
    let i = d in
    let e = i in
    let l = e in (
      text-went l.loop-place.invariant.0 e.loop-place-test.true e.line_end-end.ensures i.if-whole-room.false
          d.line_into.ensures c.in-Ok.is,
      omega (arith, l.loop-place.invariant.1, line-more l.args.text.now l.loop-place.place _ e.loop-place-test.true e.line_end-end.ensures),
      line-within l.args.text.now l.loop-place.place _ e.loop-place-test.true e.line_end-end.ensures,
    )

pub shape_of-room : goal.shape_of-room
shape_of-room c = let l = c in text-room l.loop-place.invariant.0

pub returns : goal.returns
returns c = let l = c in
    let whole = as-told c.told-2.ensures (text-over l.loop-place.invariant.0 c.loop-place-test.false) in
    record { value = whole.0; room_after = whole.1 }
