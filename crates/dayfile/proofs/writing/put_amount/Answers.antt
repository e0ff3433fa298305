-- `dayfile::writing::put_amount` meets its contract.
use mathlib.Core.Path.{ap}
use native.Mathlib.Omega.{arith}
use lib.ListN.{length}
use Rattle.numbers.proofs.Numbers.{length-bytes_of}
use Rattle.dayfile.proofs.Amounts.{field-named}
use Rattle.dayfile.proofs.Rooms.{put-none, put-eight}
use Rattle.dayfile.proofs.writing.put_amount.Goals as goal

pub returns-then-bit-eq0 : goal.returns-then-bit-eq0
returns-then-bit-eq0 c = put-none _ _ _ _ c.if-bit-eq0.true

pub put8-requires : goal.put8-requires
put8-requires c =
    let a = c.args in
    omega (arith, c.requires, ap length (field-named a.bit a.x c.if-bit-eq0.false), length-bytes_of 8 a.x)

pub returns : goal.returns
returns c = put-eight _ _ _ _ _ c.if-bit-eq0.false c.put8.ensures
