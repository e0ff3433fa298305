-- What the theorems speak of. No promise of a public call cites it but for `is_two`, which those of the crate embedded do.
use Rattle.std.specs.Prelude.{Bool, List, ◌≡◌, ℕ, ◌^◌, ◌<◌, length, get_or}
use Rattle.table.specs.declared.Table.{Table}
use Rattle.book.specs.Placed.{place_numbers}
use Rattle.bookfile.specs.declared.Version.TheVariants.{One, Two}
use Rattle.bookfile.specs.Written.{written_by}
use Rattle.bookfile.specs.Reading.{is_of}

-- what every value of the type has: each array its length, and each number fits its word
pub record Fits (t : Table) : Type 0 where
  pub count : t.count < 2 ^ 16
  pub serial : t.serial < 2 ^ 16
  pub sorts : length t.marks.sort ≡ 256
  pub lives : length t.marks.live ≡ 256
  pub tms : length t.marks.tm ≡ 256
  pub modes : length t.modes ≡ 256
  pub needs : length t.needs ≡ 256
  pub amounts : length t.amounts ≡ 2560
  pub numbers : length t.numbers ≡ 256
  pub sort : (i : ℕ) → get_or t.marks.sort i 0 < 2 ^ 8
  pub tm : (i : ℕ) → get_or t.marks.tm i 0 < 2 ^ 16
  pub need : (i : ℕ) → get_or t.needs i 0 < 2 ^ 64
  pub amount : (n : ℕ) → get_or t.amounts n 0 < 2 ^ 64
  pub next : t.next < 2 ^ 32
  pub number : (i : ℕ) → get_or t.numbers i 0 < 2 ^ 16

-- the table as version 1 tells it: "numbers equal to places below the count and 0 from there on, and the count as its next number"
abbrev pub by_places : Table → Table
by_places t = record {
  count = t.count;
  serial = t.serial;
  marks = t.marks;
  modes = t.modes;
  needs = t.needs;
  amounts = t.amounts;
  next = t.count;
  numbers = place_numbers t.count;
}

-- bytes that are a book of version 2, and of version 1
abbrev pub is_two : List ℕ → Bool
is_two file = is_of Two file

abbrev pub is_one : List ℕ → Bool
is_one file = is_of One file

-- what was written of a book before version 2
abbrev pub written_as_one : Table → List ℕ
written_as_one t = written_by One t
