-- `archiving::put_three` meets its contract.
use mathlib.Core.Path.{◌≡◌, refl}
use Prim.Native.Nat.{suc, ◌+◌}
use native.Mathlib.Omega.{arith}
use lib.ListN.{length-set}
use Rattle.archiving.proofs.put_three.Goals as goal

pub returns : goal.returns
returns c =
    let at = c.args.at in
    let one : at + 1 ≡ suc at = omega arith in
    let two : at + 2 ≡ suc (suc at) = omega arith in
    record { holds = rw (one, two); next = refl; within = omega arith }

pub bounds-room-at-2 : goal.bounds-room-at-2
bounds-room-at-2 c = simp length-set (omega arith)

pub bounds-room-at-3 : goal.bounds-room-at-3
bounds-room-at-3 c = simp length-set (omega arith)
