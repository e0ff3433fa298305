-- `words::text_of_bytes` meets its contract. The invariant: so many records were taken, their lines stand in the room, and what is left is taken from the place on.
use Rattle.std.proofs.Common.{arith}
use Rattle.words.proofs.RecordsAt.{ends_at}
use Rattle.words.proofs.RecordPieces.{bytes-started, bytes-over, bytes-room, bytes-fits, bytes-wait, bytes-enough, bytes-failed, bytes-went}
use Rattle.words.proofs.Taking.{as-told}
use Rattle.words.proofs.piece.text_of_bytes.Goals as goal

pub loop-place-init : goal.loop-place-init
loop-place-init c = let a = c.args in (bytes-started a.bytes.now a.last a.running a.room.now, omega arith, omega arith)

pub overflow_sub-room : goal.overflow_sub-room
overflow_sub-room c = let l = c in bytes-fits l.loop-place.invariant.0

pub shape_of-room-then-last-found : goal.shape_of-room-then-last-found
shape_of-room-then-last-found c = let l = c in bytes-room l.loop-place.invariant.0

pub returns-then-last-found : goal.returns-then-last-found
returns-then-last-found c =
    let e = c in
    let l = e in
    let whole = as-told c.told.ensures (bytes-wait l.loop-place.invariant.0 (ends_at l.args.bytes.now l.loop-place.place (λ i. omega (arith, l.type_inv.bytes i)) e.loop-place-test.true e.record_end-found.ensures) c.if-last-found.true) in
    record { value = whole.0; room_after = whole.1 }

pub slice_bounds-record_into-count : goal.slice_bounds-record_into-count
slice_bounds-record_into-count c =
    let e = c in
    let l = e in
    omega (arith, (ends_at l.args.bytes.now l.loop-place.place (λ i. omega (arith, l.type_inv.bytes i)) e.loop-place-test.true e.record_end-found.ensures).more)

pub slice_bounds-record_into-start : goal.slice_bounds-record_into-start
slice_bounds-record_into-start c =
    let e = c in
    let l = e in
    omega (arith, (ends_at l.args.bytes.now l.loop-place.place (λ i. omega (arith, l.type_inv.bytes i)) e.loop-place-test.true e.record_end-found.ensures).more)

pub slice_bounds-record_into-end : goal.slice_bounds-record_into-end
slice_bounds-record_into-end c =
    let e = c in
    let l = e in
    (ends_at l.args.bytes.now l.loop-place.place (λ i. omega (arith, l.type_inv.bytes i)) e.loop-place-test.true e.record_end-found.ensures).within

pub record_into-requires : goal.record_into-requires
record_into-requires c =
    let i = c in
    let e = i in
    let l = e in
    let h = ends_at l.args.bytes.now l.loop-place.place (λ i. omega (arith, l.type_inv.bytes i)) e.loop-place-test.true e.record_end-found.ensures in
    (bytes-enough l.loop-place.invariant.0 h i.if-last-found.false, h.part.most)

pub shape_of-room-in-Err : goal.shape_of-room-in-Err
shape_of-room-in-Err c =
    let d = c in
    let l = d in
    omega (arith, d.record_into.auto.room, bytes-room l.loop-place.invariant.0)

pub returns-in-Err : goal.returns-in-Err
returns-in-Err c =
    let d = c in
    let i = d in
    let e = i in
    let l = e in
    let whole = as-told c.told-in-Err.ensures
    (bytes-failed l.loop-place.invariant.0 (ends_at l.args.bytes.now l.loop-place.place (λ i. omega (arith, l.type_inv.bytes i)) e.loop-place-test.true e.record_end-found.ensures) i.if-last-found.false d.record_into.ensures c.in-Err.is) in
    record { value = whole.0; room_after = whole.1 }

pub overflow_add-lines : goal.overflow_add-lines
overflow_add-lines c =
    let e = c in
    let l = e in
    let h = ends_at l.args.bytes.now l.loop-place.place (λ i. omega (arith, l.type_inv.bytes i)) e.loop-place-test.true e.record_end-found.ensures in
    omega (arith, l.loop-place.invariant.1, h.more, h.within)

pub loop-place-smaller : goal.loop-place-smaller
loop-place-smaller c =
    let e = c in
    let l = e in
    let h = ends_at l.args.bytes.now l.loop-place.place (λ i. omega (arith, l.type_inv.bytes i)) e.loop-place-test.true e.record_end-found.ensures in
    omega (arith, h.more, h.within)

pub loop-place-preserved : goal.loop-place-preserved
loop-place-preserved c =
    let d = c in
    let i = d in
    let e = i in
    let l = e in
    let h = ends_at l.args.bytes.now l.loop-place.place (λ i. omega (arith, l.type_inv.bytes i)) e.loop-place-test.true e.record_end-found.ensures in
    (bytes-went l.loop-place.invariant.0 h i.if-last-found.false d.record_into.ensures c.in-Ok.is, omega (arith, l.loop-place.invariant.1, h.more), h.within)

pub shape_of-room : goal.shape_of-room
shape_of-room c = let l = c in bytes-room l.loop-place.invariant.0

pub returns : goal.returns
returns c = let l = c in
    let whole = as-told c.told-2.ensures (bytes-over l.loop-place.invariant.0 c.loop-place-test.false) in
    record { value = whole.0; room_after = whole.1 }
