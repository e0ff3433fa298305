-- `bookfile::writing::write` meets its contract.
use native.Mathlib.Omega.{arith}
use Rattle.bookfile.proofs.Parts.{put_written}
use Rattle.bookfile.proofs.Wrote.{other-room, fitting-room}
use Rattle.bookfile.proofs.writing.write.Goals as goal

pub returns-then-room-ne-SIZE : goal.returns-then-room-ne-SIZE
returns-then-room-ne-SIZE c =
    let a = c.args in
    let whole = other-room a.t a.room.now (λ e. omega arith) in
    record { value = whole.0; room_after = whole.1 }

pub returns : goal.returns
returns c =
    let cp = c in
    let ch = cp in
    let e = ch in
    let a = e.args in
    let whole = fitting-room a.t a.room.now _ (omega arith) (put_written a.t a.room.now _ _ (omega arith) ch.put_head.ensures cp.put_places.ensures) in
    record { value = whole.0; room_after = whole.1 }
