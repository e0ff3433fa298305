-- `lines::lines` meets its contract.
use mathlib.Core.Path.{◌≡◌, ap}
use mathlib.Core.List.{List}
use Prim.Native.Nat.{ℕ, zero, ◌≤◌}
use native.Mathlib.Omega.{arith}
use lib.ListN.{length, replicate, length-replicate}
use Rattle.records.specs.LineNumbers.{room_for}
use Rattle.table.specs.Words.{turned_back}
use Rattle.lines.specs.Texts.{limit_of}
use Rattle.lines.proofs.Records.{read-most, lines_left}
use Rattle.lines.proofs.lines.Goals as goal

-- the room for the records' numbers, before they are put
abbrev blank : List ℕ
blank = replicate 10240 0

fits : (n : ℕ) → n ≤ 2048 → n ≡ room_for n blank
fits n h = omega (arith, length-replicate 10240 (zero))

pub put_lines-text-requires : goal.put_lines-text-requires
put_lines-text-requires c =
    let r = c in
    let d = r.day_with_numbers-ran in
    let l = r.limit in
    let a = r.args in
    let e : l.result ≡ limit_of a.most a.room.now = l.ensures in
    let size : length d.new.room ≡ length blank = d.auto.room in (
      c.fill.ensures,
      omega (arith, length-replicate 10240 zero, ap (λ x. x.read) d.ensures.value, read-most (turned_back a.t) a.piece.now (room_for l.result blank)),
      omega (arith, ap (λ x. x.read) d.ensures.value, read-most (turned_back a.t) a.piece.now (room_for l.result blank)),
    )

pub returns : goal.returns
returns c =
    let r = c in
    let d = r.day_with_numbers-ran in
    let l = r.limit in
    let a = r.args in
    let e : l.result ≡ limit_of a.most a.room.now = l.ensures in
    let whole = lines_left (turned_back a.t) a.piece.now l.result blank (fits l.result (omega arith)) d.ensures.value d.ensures.room_after c.put_lines-text.ensures in
    record { value = rw (← e) whole.0; room_after = rw (← e) whole.1 }

pub fill-requires : goal.fill-requires
fill-requires c = length-replicate {A = ℕ} 1000 0
