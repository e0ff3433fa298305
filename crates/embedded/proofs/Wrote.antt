-- What the writer of records answered.
use mathlib.Core.List.{List}
use mathlib.Core.Path.{◌≡◌}
use Prim.Native.Nat.{ℕ, zero, suc}
use native.Mathlib.Omega.{arith}
use lib.ListN.{length}
use Rattle.sums.specs.Choice.{unless_refused}
use Rattle.dayfile.specs.declared.Record.{Record}
use Rattle.dayfile.specs.declared.Wrote.TheVariants.{Written, Refused}
use Rattle.dayfile.specs.Written.{written_of, wrote_of, writer_refusal}

-- a refusal has a number other than 0
pub refused-with : (r : Record) (room : List ℕ) (n : ℕ) → Refused n ≡ wrote_of r room → n ≡ 0 → ⊥
unfolding wrote_of
refused-with r room n e z = by (writer_refusal r room) e
  where
    by : (k : ℕ) → Refused n ≡ unless_refused k (Written (length (written_of r))) Refused → ⊥
    by zero q = let y : ◌≡◌ {A = ℕ} 0 1 = cc in omega arith
    by (suc k) q = let y : n ≡ suc k = cc in omega arith
