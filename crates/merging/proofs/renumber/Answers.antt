-- `merging::renumber` meets its contract. The invariant: the records in front of the place have their new serials, those behind it don't yet.
use Rattle.std.proofs.Common.{ℕ, List, ◌++◌, length, take, drop, sym, refl, ap, ◌∙◌, arith, take-append-drop, length-take-le, rules}
use Rattle.numbers.specs.Bytes.{Bytes}
use Rattle.numbers.proofs.Numbers.{bytes_take}
use Rattle.dayfile.proofs.RoundTrip.{read-file}
use Rattle.merging.proofs.Joined.{listed-reads, all-good}
use Rattle.merging.proofs.Renumbering.{at_first, turned, at_last}
use Rattle.merging.proofs.renumber.Goals as goal

pub loop-place-init : goal.loop-place-init
loop-place-init c =
    let a = c.args in
    let y : Bytes (take a.n a.room.now) = bytes_take a.n a.room.now (λ i. (c.type_inv.room i).fits) in
    let p = listed-reads (take a.n a.room.now) _ 0 (omega arith) c.requires.1 in (
      at_first (all-good y p) (sym (take-append-drop a.n a.room.now) ∙ ap (λ (l : List ℕ). l ++ drop a.n a.room.now) (read-file y p))
          (sym (length-take-le a.n a.room.now c.requires.0) ∙ ap length (read-file y p)),
      refl,
    )

pub bounds-room-place : goal.bounds-room-place
bounds-room-place c =
    let t = turned c.loop-place.invariant.0 (omega arith) in
    omega (arith, t.within)

pub overflow_add-next : goal.overflow_add-next
overflow_add-next c =
    let t = turned c.loop-place.invariant.0 (omega arith) in
    omega (arith, t.within, c.size.ensures)

pub put2-requires : goal.put2-requires
put2-requires c =
    let t = turned c.loop-place.invariant.0 (omega arith) in
    omega (arith, t.within)

pub loop-place-smaller : goal.loop-place-smaller
loop-place-smaller c =
    let t = turned c.loop-place.invariant.0 (omega arith) in
    omega (arith, t.within, c.size.ensures)

pub loop-place-preserved : goal.loop-place-preserved
loop-place-preserved c =
    let t = turned c.loop-place.invariant.0 (omega arith) in
    (rw (c.size.ensures, c.put2.ensures) t.on, search rules)

pub shape_of-room : goal.shape_of-room
shape_of-room c = c.loop-place.invariant.1

pub returns : goal.returns
returns c = at_last c.loop-place.invariant.0 (omega arith)
