-- Every row of a sound book is in range, so that no sum over the book passes a word.
use Prim.Native.Nat.{ℕ, ◌<◌}
use native.Mathlib.Decide.{dec_lt}
use native.Mathlib.Omega.{arith}
use Rattle.rows.specs.declared.Book.{Book}
use Rattle.rows.specs.Rows.{row_at}
use Rattle.rows.specs.Facts.{InRange}
use Rattle.book.specs.Facts.{SoundRows, Sound}
use Rattle.book.proofs.Settled.{sound-rows}

-- those beyond the number too
pub rows-ranges : (b : Book) → SoundRows b → (i : ℕ) → InRange (row_at b i)
rows-ranges b s i = by (dec_lt i b.count)
  where
    by : Dec (i < b.count) → InRange (row_at b i)
    by (yes l) = s.ranges i l
    by (no l) = rw (s.blank i (omega arith)) (record { received = omega arith; allocated = omega arith; pledged = omega arith; margin = omega arith })

pub sound-ranges : (b : Book) → Sound b → (i : ℕ) → InRange (row_at b i)
sound-ranges b s = rows-ranges b (sound-rows b s)
