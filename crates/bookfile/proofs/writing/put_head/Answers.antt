-- `bookfile::writing::put_head` meets its contract.
use mathlib.Core.List.{List, ◌++◌}
use mathlib.Core.Path.{◌≡◌, ◌∙◌}
use Prim.Native.Nat.{ℕ}
use native.Mathlib.Omega.{arith}
use lib.ListN.{length, set, length-set}
use Rattle.numbers.specs.Bytes.{bytes_of}
use Rattle.numbers.proofs.Numbers.{length-bytes_of}
use Rattle.bookfile.proofs.Parts.{put_then}
use Rattle.bookfile.proofs.writing.put_head.Goals as goal

-- the room with the mark put
abbrev begun : List ℕ → List ℕ
begun l = set (set (set (set l 0 76) 1 86) 2 66) 3 2

length-begun : (l : List ℕ) → length (begun l) ≡ length l
length-begun l = simp length-set

pub put2-requires-2 : goal.put2-requires-2
put2-requires-2 c =
    let a = c.args in
    omega (arith, length-begun a.room.now)

pub put4-requires : goal.put4-requires
put4-requires c =
    let c2 = c in
    let c1 = c2 in
    omega (arith, length-begun c1.args.room.now, c1.put2.auto.room, c2.put2-2.auto.room)

pub shape_of-room : goal.shape_of-room
shape_of-room c =
    let c3 = c in
    let c2 = c3 in
    let c1 = c2 in
    c3.put4.auto.room ∙ c2.put2-2.auto.room ∙ c1.put2.auto.room ∙ simp length-set

pub returns : goal.returns
returns c =
    let c3 = c in
    let c2 = c3 in
    let c1 = c2 in
    let a = c1.args in
    let room = begun a.room.now in
    put_then room _ _ (bytes_of 2 a.count) (bytes_of 2 a.serial ++ bytes_of 4 a.next) 4 2 c1.put2.ensures
    (put_then _ _ _ (bytes_of 2 a.serial) (bytes_of 4 a.next) 6 2 c2.put2-2.ensures c3.put4.ensures (length-bytes_of 2 a.serial))
    (length-bytes_of 2 a.count)
