-- Document 01, 'The day file': what stands at a place of a piece, and what the reader gives.
use Rattle.std.specs.Prelude.{Bool, ◌&&◌, List, [], ◌∷◌, ℕ, zero, suc, ◌+◌, ◌*◌, leb, ltb, length, get_or, drop}
use Rattle.std.specs.Int.Count.{ones}
use Rattle.sums.specs.Choice.{pick, unless_refused}
use Rattle.sums.specs.Sum.{only}
use Rattle.numbers.specs.Bytes.{number}
use Rattle.dayfile.specs.declared.Record.{Record}
use Rattle.dayfile.specs.declared.Found.{Found}
use Rattle.dayfile.specs.declared.Found.TheVariants.{End as NoBytes, Cut as TooFew, Whole}
use Rattle.dayfile.specs.declared.Read.{Read}
use Rattle.dayfile.specs.declared.Read.TheVariants.{End, Cut, Good, Bad}
use Rattle.dayfile.specs.Records.{bit, fault_of}

-- "then eight bytes for each one in the second mark byte": a record's length, unknown codes included
abbrev pub size_of : ℕ → ℕ
size_of named = 6 + 8 * ones named

-- the amount at the front of l where its bit is 1, else 0; and what follows it
unfoldable pub got : ℕ → List ℕ → ℕ
got zero l = 0
got (suc n) l = number 8 l

unfoldable pub past : ℕ → List ℕ → List ℕ
past zero l = l
past (suc n) l = drop 8 l

-- the record whose bytes after the mark begin l; "A record that has been read holds 0 for each amount it doesn't name."
unfoldable pub record_of : ℕ → ℕ → List ℕ → Record
record_of code named l =
    let l0 = drop 2 (drop 2 l) in
    let l1 = past (bit 0 named) l0 in
    let l2 = past (bit 1 named) l1 in
    let l3 = past (bit 2 named) l2 in
    let l4 = past (bit 3 named) l3 in
    let l5 = past (bit 4 named) l4 in
    record {
      serial = number 2 l;
      code = code;
      named = named;
      account = number 2 (drop 2 l);
      kinds = record { cash = got (bit 0 named) l0; deposits = got (bit 1 named) l1; guarantees = got (bit 2 named) l2; securities = got (bit 3 named) l3 };
      pledged = got (bit 4 named) l4;
      margin = got (bit 5 named) l5;
    }

-- what l, which stands at the place at, begins with. "2: bytes are left, but too few for the record's first six bytes or
-- for its amounts"
unfoldable pub found_from : List ℕ → ℕ → Found
found_from [] at = NoBytes
found_from (c ∷ []) at = TooFew
found_from (c ∷ n ∷ l) at =
    pick (leb (size_of n) (2 + length l)) (Whole (record_of c n l) (at + size_of n)) TooFew

-- "A place past the piece's end counts as the end."
unfoldable pub found_at : List ℕ → ℕ → Found
found_at s at = found_from (drop at s) at

-- a whole record: "gives it, or the first of 4, 5, 6 that applies together with its serial, code and account"
unfoldable pub judged : Record → ℕ → Read
judged r next = unless_refused (fault_of r) (Good r next) (λ n. Bad n r.serial r.code r.account next)

-- what the reader gives of what stands there
unfoldable pub read_of : Found → Read
read_of NoBytes = End
read_of TooFew = Cut
read_of (Whole r next) = judged r next

-- what the reader gives at a place
unfoldable pub read_at : List ℕ → ℕ → Read
read_at s at = read_of (found_at s at)

-- Document 01's numbers for each case. What stands at a place, good or not, names 2 or nothing; the end is no refusal.
abbrev pub number_found : Found → ℕ
number_found NoBytes = 0
number_found TooFew = 2
number_found (Whole r next) = 0

-- what was read names 2, or the first of 4, 5, 6 that applies
abbrev pub number_of : Read → ℕ
number_of End = 0
number_of Cut = 2
number_of (Good r next) = 0
number_of (Bad reason serial code account next) = reason

-- "2: bytes are left, but too few for the record's first six bytes or for its amounts". Where one byte is left there is no second mark byte: 0 stands for it, and six bytes are
-- asked for.
abbrev pub too_few_left : List ℕ → ℕ → Bool
too_few_left s at = ltb at (length s) && ltb (length s) (at + size_of (get_or s (at + 1) 0))

-- the number of what stands at a place, and the reader's there: a whole record's is that of its fault
abbrev pub refusal_at : List ℕ → ℕ → ℕ
refusal_at s at = only (too_few_left s at) 2

abbrev pub reader_refusal : Found → ℕ
reader_refusal NoBytes = number_found NoBytes
reader_refusal TooFew = number_found TooFew
reader_refusal (Whole r next) = fault_of r

-- "Asked for the next record it gives the end or 2 (with either, its place stays just as it was), or else moves past the
-- record"
abbrev pub place_after : Read → ℕ → ℕ
place_after End at = at
place_after Cut at = at
place_after (Good r next) at = next
place_after (Bad reason serial code account next) at = next
