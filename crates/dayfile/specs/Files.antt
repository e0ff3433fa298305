-- Whole day files: what the theorems on them speak of, and what a merging writes.
use Rattle.std.specs.Prelude.{List, [], ◌∷◌, ◌++◌, ◌≡◌, ℕ, ◌^◌, ◌<◌}
use Rattle.dayfile.specs.declared.Record.{Record}
use Rattle.dayfile.specs.declared.Read.TheVariants.{End, Good}
use Rattle.dayfile.specs.Records.{fault_of}
use Rattle.dayfile.specs.Written.{written_of}
use Rattle.dayfile.specs.Reading.{read_at}

-- The numbers that a record's words can hold: u16 for serial and account, u8 for code and second mark byte.
pub record WordsFit (r : Record) : Type 0 where
  pub serial : r.serial < 2 ^ 16
  pub code : r.code < 2 ^ 8
  pub named : r.named < 2 ^ 8
  pub account : r.account < 2 ^ 16

-- good records, whose numbers fit their words
pub data AllGood : List Record → Type 0 where
  none : AllGood []
  also : {r : Record} {rs : List Record} → fault_of r ≡ 0 → WordsFit r → AllGood rs → AllGood (r ∷ rs)

-- "Records follow one another"
unfoldable pub file_of : List Record → List ℕ
file_of [] = []
file_of (r ∷ rs) = written_of r ++ file_of rs

-- from the place at, the piece s reads as just these good records, up to its end
pub data Reads (s : List ℕ) : ℕ → List Record → Type 0 where
  done : {at : ℕ} → read_at s at ≡ End → Reads s at []
  more : {at next : ℕ} {r : Record} {rs : List Record} → read_at s at ≡ Good r next → Reads s next rs → Reads s at (r ∷ rs)
