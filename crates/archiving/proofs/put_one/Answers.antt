-- `archiving::put_one` meets its contract.
use mathlib.Core.Path.{refl}
use native.Mathlib.Omega.{arith}
use Rattle.table.specs.Words.{turned_back}
use Rattle.table.proofs.Gathered.{row-in}
use Rattle.text.proofs.Puts.{puts_none}
use Rattle.archiving.proofs.Entries.{live-entry, retired-entry}
use Rattle.archiving.proofs.put_one.Goals as goal

pub returns-then-t-i : goal.returns-then-t-i
returns-then-t-i c =
    let a = c.args in
    let its-row = row-in a.t.now.marks a.t.now.amounts a.i c.requires.0 in
    rw (live-entry (turned_back a.t.now) a.i its-row c.if-t-i.true) (puts_none a.room.now a.at refl (omega (arith, c.requires.2)))

pub put_three-requires : goal.put_three-requires
put_three-requires c =
    let a = c.args in
    let its-row = row-in a.t.now.marks a.t.now.amounts a.i c.requires.0 in rw (retired-entry (turned_back a.t.now) a.i its-row c.if-t-i.false c.tm_number-its.ensures) at c.requires.2

pub returns : goal.returns
returns c =
    let a = c.args in
    let its-row = row-in a.t.now.marks a.t.now.amounts a.i c.requires.0 in rw (retired-entry (turned_back a.t.now) a.i its-row c.if-t-i.false c.tm_number-its.ensures) c.put_three.ensures
