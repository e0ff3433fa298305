-- `dayfile::writing::write` meets its contract.
use mathlib.Core.Path.{◌≡◌, ◌∙◌, sym}
use native.Mathlib.Omega.{arith}
use Rattle.dayfile.specs.Records.{fault_of}
use Rattle.dayfile.proofs.Lengths.{length-written}
use Rattle.dayfile.proofs.Answers.{write-refused, write-short, write_done}
use Rattle.dayfile.proofs.Numbers.{wrote-named}
use Rattle.dayfile.proofs.writing.write.Goals as goal

pub returns-then-fault-ne0 : goal.returns-then-fault-ne0
returns-then-fault-ne0 c =
    let a = c.args in
    let whole = wrote-named _ _ _ _ _ (write-refused a.«record» a.room.now _ c.fault_of-fault.ensures c.if-fault-ne0.true) in
    record { value = whole.0; room_after = whole.1 }

pub returns-then-room-n : goal.returns-then-room-n
returns-then-room-n c =
    let a = c.args in
    let g : fault_of a.«record» ≡ 0 = sym c.fault_of-fault.ensures ∙ c.if-fault-ne0.false in
    let n = length-written a.«record» g in
    let whole = wrote-named _ _ _ _ _ (write-short a.«record» a.room.now g (omega (arith, n, c.size-n.ensures, c.if-room-n.true))) in
    record { value = whole.0; room_after = whole.1 }

pub put_record-requires : goal.put_record-requires
put_record-requires c =
    let a = c.args in
    let g : fault_of a.«record» ≡ 0 = sym c.fault_of-fault.ensures ∙ c.if-fault-ne0.false in
    let n = length-written a.«record» g in
    omega (arith, n, c.size-n.ensures, c.if-room-n.false)

pub returns : goal.returns
returns c =
    let a = c.args in
    let g : fault_of a.«record» ≡ 0 = sym c.fault_of-fault.ensures ∙ c.if-fault-ne0.false in
    let n = length-written a.«record» g in
    let whole = wrote-named _ _ _ _ _ (write_done a.«record» a.room.now g _ _ (omega (arith, n, c.size-n.ensures)) (omega (arith, n, c.size-n.ensures, c.if-room-n.false)) c.put_record.ensures) in
    record { value = whole.0; room_after = whole.1 }
