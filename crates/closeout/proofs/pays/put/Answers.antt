-- `closeout::pays::put` meets its contract: four stores are `four-stores`.
use native.Mathlib.Omega.{arith}
use lib.ListN.{length-set}
use Rattle.closeout.proofs.Rooms.{four-stores}
use Rattle.closeout.proofs.pays.put.Goals as goal

pub returns : goal.returns
returns c = four-stores _ _ _ _ _ _ c.requires

pub bounds-room-at-2 : goal.bounds-room-at-2
bounds-room-at-2 c = simp length-set (omega arith)

pub bounds-room-at-3 : goal.bounds-room-at-3
bounds-room-at-3 c = simp length-set (omega arith)

pub bounds-room-at-4 : goal.bounds-room-at-4
bounds-room-at-4 c = simp length-set (omega arith)
