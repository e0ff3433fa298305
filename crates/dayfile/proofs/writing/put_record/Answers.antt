-- `dayfile::writing::put_record` meets its contract: each part where the one before it ended, and all within the record's length.
use native.Mathlib.Omega.{arith}
use lib.ListN.{length-set}
use Rattle.dayfile.specs.Written.{body_of, written_of}
use Rattle.dayfile.proofs.Rooms.{length-parts, length_two, put-more, put-bytes}
use Rattle.dayfile.proofs.writing.put_record.Goals as goal

pub bounds-room-0 : goal.bounds-room-0
bounds-room-0 c = omega (arith, length-parts c.args.«record», c.requires)

pub bounds-room-1 : goal.bounds-room-1
bounds-room-1 c = simp length-set (omega (arith, length-parts c.args.«record», c.requires))

pub put2-requires : goal.put2-requires
put2-requires c = simp length-set (omega (arith, length-parts c.args.«record», c.requires))

pub put2-requires-2 : goal.put2-requires-2
put2-requires-2 c =
    let a = c.args in
    omega (arith, length-parts a.«record», length_two a.room.now a.«record».code a.«record».named)

pub put_amount-p1-requires : goal.put_amount-p1-requires
put_amount-p1-requires c =
    let a = c.args in
    omega (arith, length-parts a.«record», length_two a.room.now a.«record».code a.«record».named)

pub put_amount-p2-requires : goal.put_amount-p2-requires
put_amount-p2-requires c =
    let a = c.args in
    omega (arith, length-parts a.«record», length_two a.room.now a.«record».code a.«record».named)

pub put_amount-p3-requires : goal.put_amount-p3-requires
put_amount-p3-requires c =
    let a = c.args in
    omega (arith, length-parts a.«record», length_two a.room.now a.«record».code a.«record».named)

pub put_amount-p4-requires : goal.put_amount-p4-requires
put_amount-p4-requires c =
    let a = c.args in
    omega (arith, length-parts a.«record», length_two a.room.now a.«record».code a.«record».named)

pub put_amount-p5-requires : goal.put_amount-p5-requires
put_amount-p5-requires c =
    let a = c.args in
    omega (arith, length-parts a.«record», length_two a.room.now a.«record».code a.«record».named)

pub put_amount-requires : goal.put_amount-requires
put_amount-requires c =
    let a = c.args in
    omega (arith, length-parts a.«record», length_two a.room.now a.«record».code a.«record».named)

pub shape_of-room : goal.shape_of-room
shape_of-room c =
    let c6 = c in
    let c5 = c6 in
    let c4 = c5 in
    let c3 = c4 in
    let c2 = c3 in
    let c1 = c2 in
    let ca = c1 in
    let cs = ca in
    let a = cs.args in
    omega (arith, length_two a.room.now a.«record».code a.«record».named, c6.put_amount.auto.room, c5.put_amount-p5.auto.room, c4.put_amount-p4.auto.room, c3.put_amount-p3.auto.room, c2.put_amount-p2.auto.room, c1.put_amount-p1.auto.room, ca.put2-2.auto.room, cs.put2.auto.room)

pub returns : goal.returns
unfolding written_of body_of
returns c =
    let c6 = c in
    let c5 = c6 in
    let c4 = c5 in
    let c3 = c4 in
    let c2 = c3 in
    let c1 = c2 in
    let ca = c1 in
    let cs = ca in
    (put-more (put-bytes 2 2 _ cs.put2.ensures) (put-more (put-bytes 2 4 _ ca.put2-2.ensures)
    (put-more c1.put_amount-p1.ensures (put-more c2.put_amount-p2.ensures (put-more c3.put_amount-p3.ensures
    (put-more c4.put_amount-p4.ensures (put-more c5.put_amount-p5.ensures c6.put_amount.ensures))))))).held
