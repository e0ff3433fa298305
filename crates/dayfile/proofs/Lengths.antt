-- A record's length comes from the ones of its second mark byte.
use mathlib.Core.Path.{◌≡◌}
use Prim.Native.Nat.{ℕ, ◌+◌, ◌*◌, ◌/◌, ◌^◌, ◌≤◌, ◌<◌}
use native.Mathlib.Omega.{arith}
use lib.Count.{ones, ones-le}
use lib.ListN.{length, length-append}
use Rattle.numbers.proofs.Numbers.{length-bytes_of}
use Rattle.dayfile.specs.declared.Record.{Record}
use Rattle.dayfile.specs.Records.{fault_of}
use Rattle.dayfile.specs.Reading.{size_of}
use Rattle.dayfile.specs.Written.{body_of, written_of}
use Rattle.dayfile.proofs.Marks.{ones-bits, ones-zero}
use Rattle.dayfile.proofs.Amounts.{length-bit}
use Rattle.dayfile.proofs.Good.{no-fault-good, suits-lt}

pub length-body : (r : Record) → r.named < 64 → length (body_of r) ≡ 4 + 8 * ones r.named
unfolding body_of
length-body r h =
    simp (length-append, length-bytes_of, length-bit)
    (omega (arith, ones-bits r.named, ones-zero (r.named / 64) (omega arith)))

pub length-written : (r : Record) → fault_of r ≡ 0 → length (written_of r) ≡ size_of r.named
unfolding written_of
length-written r f = omega (arith, length-body r (suits-lt r.code r.named (no-fault-good r f).suit))

-- "The longest record is 70 bytes.", whatever its code
pub size-most : (named : ℕ) → named < 2 ^ 8 → size_of named ≤ 70
size-most named h = omega (arith, ones-le 8 named h)
