-- `archiving::put_archived` meets its contract. The invariant: the room has at its start what the rows passed put.
use mathlib.Core.Path.{◌≡◌, refl}
use native.Mathlib.Omega.{arith}
use Rattle.table.specs.Words.{turned_back}
use Rattle.text.proofs.Puts.{puts_none, puts-length, puts-at-start, and_then}
use Rattle.archiving.specs.Inner.{entry_of}
use Rattle.archiving.proofs.Entries.{entries, entries_none, entries-more, entry-fits}
use Rattle.archiving.proofs.put_archived.Goals as goal

pub loop-i-init : goal.loop-i-init
loop-i-init c = rw (entries_none (turned_back c.args.t.now)) (puts_none c.args.room.now 0 refl (omega arith))

pub put_one-at-requires : goal.put_one-at-requires
put_one-at-requires c =
    let l = c.loop-i in (
      omega (arith, c.requires.0),
      c.requires.1 l.i c.loop-i-test.true,
      omega (arith, entry-fits (turned_back c.args.t.now) l.i c.loop-i-test.true, c.requires.2, l.invariant.next, puts-length l.invariant),
    )

pub loop-i-preserved : goal.loop-i-preserved
loop-i-preserved c =
    let l = c.loop-i in
    let b = turned_back c.args.t.now in rw (entries-more b l.i) (and_then (entries b l.i) (entry_of b l.i) l.invariant c.put_one-at.ensures)

pub shape_of-room : goal.shape_of-room
shape_of-room c = puts-length c.loop-i.invariant

pub returns : goal.returns
returns c =
    let l = c.loop-i in
    let e : l.i ≡ c.args.t.now.count = omega (arith, c.loop-i-test.false) in (puts-at-start (rw e at l.invariant)).1
