-- What the writer answers, by the length of its room.
use mathlib.Core.Bool.{Bool, true, false}
use mathlib.Core.List.{List}
use mathlib.Core.Path.{◌≡◌, refl}
use Prim.Native.Nat.{ℕ}
use native.Mathlib.Omega.{arith}
use borrow.Author.Tests.{eq-eqb, ne_eqb}
use lib.Dec.{eqb}
use lib.ListN.{length}
use Rattle.sums.specs.Choice.{pick}
use Rattle.sums.proofs.Choices.{pick_first, pick_second}
use Rattle.table.specs.declared.Table.{Table}
use Rattle.bookfile.specs.Written.{size, written_of, wrote_of, room_after}

-- refused, and as it was
pub other-room : (t : Table) (room : List ℕ) → (length room ≡ size → ⊥) → (15 ≡ wrote_of room) × (room ≡ room_after t room)
unfolding wrote_of room_after
other-room t room h =
    let e = ne_eqb (length room) size h in
    (pick_second 0 e refl, pick_second (written_of t) e refl)

-- the book's written form
pub fitting-room : (t : Table) (room after : List ℕ) → length room ≡ size → after ≡ written_of t → (0 ≡ wrote_of room) × (after ≡ room_after t room)
unfolding wrote_of room_after
fitting-room t room after h q =
    let e = eq-eqb (length room) size h in
    (pick_first 15 e refl, pick_first room e q)

-- with 0 the room holds it
pub room-wrote : (t : Table) (room : List ℕ) → wrote_of room ≡ 0 → room_after t room ≡ written_of t
unfolding wrote_of room_after pick
room-wrote t room e = by (eqb (length room) size) e
  where
    by : (b : Bool) → ◌≡◌ {A = ℕ} (pick b 0 15) 0 → pick b (written_of t) room ≡ written_of t
    by true h = refl
    by false h = absurd (omega arith)
