-- Document 02, K13: the record of one client, "a byte 1, a byte for the set of amounts not zero (bits 0 to 4), two-byte account, then eight bytes for each:
-- received, retained by TM, placed with CM, retained by CM, placed with the clearing corporation."
use Rattle.std.specs.Prelude.{Bool, not, ◌&&◌, ◌||◌, List, [], ◌∷◌, ◌++◌, ℕ, zero, suc, ◌+◌, ◌*◌, eqb, leb, ltb, length, get_or, drop}
use Rattle.std.specs.Int.Count.{ones}
use Rattle.sums.specs.Table.{Line, ◌when◌}
use Rattle.numbers.specs.Bytes.{number, bytes_of}
use Rattle.rows.specs.Rows.{ceiling}
use Rattle.dayfile.specs.Records.{bit}
use Rattle.dayfile.specs.Reading.{got, past}
use Rattle.dayfile.specs.Written.{field}
use Rattle.statement.specs.declared.records.Parts.{Parts}

-- ---- written. Five amounts are called received, retained (by the TM), placed (with the CM), held (retained by the CM) and lodged (placed with the clearing corporation).

-- 1 for an amount that is not zero
unfoldable pub bit_for : ℕ → ℕ
bit_for zero = 0
bit_for (suc n) = 1

-- "a byte for the set of amounts not zero (bits 0 to 4)"
unfoldable pub set_of : Parts → ℕ
set_of p = bit_for p.received + 2 * bit_for p.retained + 4 * bit_for p.placed + 8 * bit_for p.held + 16 * bit_for p.lodged

-- the amounts not zero, eight bytes each
unfoldable pub amounts_of : Parts → List ℕ
amounts_of p =
    field (bit_for p.received) p.received
    ++ (field (bit_for p.retained) p.retained
    ++ (field (bit_for p.placed) p.placed
    ++ (field (bit_for p.held) p.held
    ++ field (bit_for p.lodged) p.lodged)))

-- the record of an account
unfoldable pub record_for : ℕ → Parts → List ℕ
record_for account p = 1 ∷ set_of p ∷ (bytes_of 2 account ++ amounts_of p)

-- ---- read, from bytes l that begin with it

-- the byte for the set of amounts
abbrev pub set_in : List ℕ → ℕ
set_in l = get_or l 1 0

-- how long it is
abbrev pub size_in : List ℕ → ℕ
size_in l = 4 + 8 * ones (set_in l)

abbrev pub account_in : List ℕ → ℕ
account_in l = number 2 (drop 2 l)

-- the five amounts from the bytes behind the account, 0 for one that isn't named
unfoldable pub parts_from : ℕ → List ℕ → Parts
parts_from named l0 =
    let l1 = past (bit 0 named) l0 in
    let l2 = past (bit 1 named) l1 in
    let l3 = past (bit 2 named) l2 in
    let l4 = past (bit 3 named) l3 in
    record {
      received = got (bit 0 named) l0;
      retained = got (bit 1 named) l1;
      placed = got (bit 2 named) l2;
      held = got (bit 3 named) l3;
      lodged = got (bit 4 named) l4;
    }

abbrev pub parts_in : List ℕ → Parts
parts_in l = parts_from (set_in l) (drop 4 l)

-- "24 cut or bad mark": the first byte is not 1, the second has a bit past bit 4, or bytes are too few
abbrev pub not_whole : List ℕ → Bool
not_whole l = not (eqb (get_or l 0 0) 1) || leb 32 (set_in l) || ltb (length l) (size_in l)

-- one of each kind
abbrev pub four_ceilings : ℕ
four_ceilings = 4 * ceiling

-- "25 amount zero or above four ceilings": one that is named
abbrev pub bad_amount : ℕ → ℕ → Bool
bad_amount named x = not (eqb named 0) && (eqb x 0 || ltb four_ceilings x)

unfoldable pub bad_amounts : ℕ → Parts → Bool
bad_amounts named p =
    bad_amount (bit 0 named) p.received
    || bad_amount (bit 1 named) p.retained
    || bad_amount (bit 2 named) p.placed
    || bad_amount (bit 3 named) p.held
    || bad_amount (bit 4 named) p.lodged

-- the faults of its form
abbrev pub form_faults : List ℕ → List Line
form_faults l = (24 when not_whole l) ∷ (25 when bad_amounts (set_in l) (parts_in l)) ∷ []
