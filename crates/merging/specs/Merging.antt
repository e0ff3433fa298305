-- Document 02, K14: "Two clerks' files are merged in some order." docs/DECISIONS.md, K14, says what a merging refuses.
use Rattle.std.specs.Prelude.{ℕ, zero, suc, List, [], ◌∷◌, ◌++◌, length, nat_le}
use Rattle.sums.specs.Choice.{pick, unless_refused}
use Rattle.sums.specs.Room.{at_start}
use Rattle.dayfile.specs.declared.Record.{Record}
use Rattle.dayfile.specs.declared.Read.{Read}
use Rattle.dayfile.specs.declared.Read.TheVariants.{End, Cut, Good, Bad}
use Rattle.dayfile.specs.Reading.{read_at}
use Rattle.dayfile.specs.Files.{file_of}
use Rattle.rules.specs.Effects.{next_serial}
use Rattle.merging.specs.declared.Merged.{Merged}

-- ---- a file, read

-- "each file is read from its start, record after record, as the reader reads it": its good records up to the first at fault, and that one's
-- refusal, or 0 at the file's end
pub record Listed : Type 0 where
  pub records : List Record
  pub refusal : ℕ

-- nothing more is read
abbrev pub ended : ℕ → Listed
ended refusal = record { records = []; refusal = refusal }

-- "2 where bytes are left that are too few for a record, else the first of 4, 5, 6 that applies"
abbrev pub onward : (ℕ → Listed) → Read → Listed
onward go End = ended 0
onward go Cut = ended 2
onward go (Good r next) = record { records = r ∷ (go next).records; refusal = (go next).refusal }
onward go (Bad reason serial code account next) = ended reason

-- from a place on, up to most records
unfoldable pub listed_from : List ℕ → ℕ → ℕ → Listed
listed_from s zero place = ended 0
listed_from s (suc most) place = onward (listed_from s most) (read_at s place)

-- the whole file, which hasn't more records than bytes
abbrev pub listed_in : List ℕ → Listed
listed_in s = listed_from s (length s) 0

-- ---- the file written

-- "renumbered": a record with another serial, ..
abbrev pub numbered : ℕ → Record → Record
numbered serial r = record { serial = serial; code = r.code; named = r.named; account = r.account; kinds = r.kinds; pledged = r.pledged; margin = r.margin }

-- .. and records from a serial on; "the serial after 65,535 is 0"
unfoldable pub renumbered : ℕ → List Record → List Record
renumbered serial [] = []
renumbered serial (r ∷ rs) = numbered serial r ∷ renumbered (next_serial serial) rs

-- "A's records and then B's, numbered from the next serial"
unfoldable pub merged_file : List ℕ → List ℕ → ℕ → List ℕ
merged_file a b next = file_of (renumbered next ((listed_in a).records ++ (listed_in b).records))

-- ---- the answer

-- no bytes are written: "the refusal, the file at fault (1 for A, 2 for B, 0 where none is), the place of the record at fault among its file's records, counted
-- from 0"
abbrev pub not_merged : ℕ → ℕ → ℕ → Merged
not_merged refusal file index = record { refusal = refusal; file = file; index = index; length = 0 }

-- the first record at fault stands behind the good ones
abbrev pub fault_in : ℕ → Listed → Merged
fault_in file l = not_merged l.refusal file (length l.records)

-- "how many bytes were written"
abbrev pub written : ℕ → Merged
written n = record { refusal = 0; file = 0; index = 0; length = n }

-- "A before B, and the first record at fault decides"; "15 where the room is shorter than both files together"
unfoldable pub merged_of : List ℕ → List ℕ → ℕ → List ℕ → Merged
merged_of a b next room =
    unless_refused (listed_in a).refusal
    (unless_refused (listed_in b).refusal
    (pick (nat_le (length (merged_file a b next)) (length room)) (written (length (merged_file a b next))) (not_merged 15 0 0))
    (λ n. fault_in 2 (listed_in b)))
    (λ n. fault_in 1 (listed_in a))

-- "what of a longer room is behind them stays. With a refusal nothing is written."
unfoldable pub room_merged : List ℕ → List ℕ → ℕ → List ℕ → List ℕ
room_merged a b next room = unless_refused (merged_of a b next room).refusal (at_start (merged_file a b next) room) (λ n. room)
