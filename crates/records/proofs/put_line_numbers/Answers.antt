-- `records::put_line_numbers` meets its contract: five stores are five numbers put at once (`five-stores`).
use Prim.Native.Nat.{◌*◌}
use native.Mathlib.Omega.{arith}
use lib.ListN.{length-set}
use Rattle.records.proofs.Numbers.{five-stores}
use Rattle.records.proofs.put_line_numbers.Goals as goal

pub returns : goal.returns
returns c =
    let a = c.args in
    five-stores a.room.now (5 * a.k) a.h.serial a.h.code a.h.account a.gone.refusal a.gone.given

pub bounds-room-at-2 : goal.bounds-room-at-2
bounds-room-at-2 c = simp length-set (omega arith)

pub bounds-room-at-3 : goal.bounds-room-at-3
bounds-room-at-3 c = simp length-set (omega arith)

pub bounds-room-at-4 : goal.bounds-room-at-4
bounds-room-at-4 c = simp length-set (omega arith)

pub bounds-room-at-5 : goal.bounds-room-at-5
bounds-room-at-5 c = simp length-set (omega arith)
