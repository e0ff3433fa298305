-- Document 01, 'The day file': which records are good; with document 02, K8: codes 12 and 13.
use Rattle.std.specs.Prelude.{Bool, not, ◌&&◌, ◌||◌, List, [], ◌∷◌, ℕ, ◌/◌, ◌%◌, ◌^◌, leb, eqb}
use Rattle.sums.specs.Choice.{pick}
use Rattle.sums.specs.Table.{Line, ◌when◌, first}
use Rattle.rows.specs.Rows.{ceiling}
use Rattle.dayfile.specs.declared.Record.{Record}

-- "In the second, bit 0 is cash, 1 fixed deposits, 2 bank guarantees, 3 government securities, 4 pledged, 5 margin": bit k of
-- a second mark byte, 1 or 0
abbrev pub bit : ℕ → ℕ → ℕ
bit k named = named / 2 ^ k % 2

-- "4: the code is not 1 to 11"; K8: "4 is given for codes outside 1 to 13."
abbrev pub known_code : ℕ → Bool
known_code code = leb 1 code && leb code 13

-- the table of codes: the second mark byte that suits each
abbrev pub suits : ℕ → ℕ → Bool
suits code named =
    leb 1 code && leb code 3 && eqb named 0  -- 1 open TM, 2 open client, 3 open CP: 0
    || leb 4 code && leb code 7 && leb 1 named && leb named 15  -- 4 to 7: one or more of bits 0 to 3, no other
    || leb 8 code && leb code 9 && eqb named 16  -- 8 pledge, 9 unpledge: bit 4 only
    || eqb code 10 && eqb named 32  -- 10 set margin: bit 5 only
    || eqb code 11 && eqb named 0  -- 11 retire: 0
    || eqb code 12 && eqb named 16  -- K8: "Code 12 (bit 4) sets pledged to a new value,
    || eqb code 13 && eqb named 32  -- code 13 (bit 5) sets a margin"

-- K8: "both allow 0": the least amount that may be named as pledged
abbrev pub least_pledged : ℕ → ℕ
least_pledged code = pick (eqb code 12) 0 1

-- "Every amount is 1 to the ceiling, except that a margin may be 0"; "an unnamed amount that isn't 0 gives 6"
abbrev pub good_amount : ℕ → ℕ → ℕ → Bool
good_amount mark least x = eqb mark 0 && eqb x 0 || not (eqb mark 0) && leb least x && leb x ceiling

-- each of the six amounts; "6: an amount is out of range" where one is not
abbrev pub good_amounts : Record → Bool
good_amounts r =
    good_amount (bit 0 r.named) 1 r.kinds.cash
    && good_amount (bit 1 r.named) 1 r.kinds.deposits
    && good_amount (bit 2 r.named) 1 r.kinds.guarantees
    && good_amount (bit 3 r.named) 1 r.kinds.securities
    && good_amount (bit 4 r.named) (least_pledged r.code) r.pledged
    && good_amount (bit 5 r.named) 0 r.margin

-- refusals 4, 5, 6 of a record, however it came: read, to be written, or handed over as values
abbrev pub faults : Record → List Line
faults r =
    (4 when not (known_code r.code))
    ∷ (5 when not (suits r.code r.named))
    ∷ (6 when not (good_amounts r))
    ∷ []

-- "the first of 4, 5, 6 that applies", or 0
unfoldable pub fault_of : Record → ℕ
fault_of r = first (faults r)
