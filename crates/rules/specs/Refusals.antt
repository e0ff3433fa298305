-- Document 01, 'Refusal numbers, in order of checking': the table, for a record at a book; with document 02, K5: its 17; K6: its 13; K7: its 12; K11: its 9.
-- Here a record's account is told by the place of its row: which row a number names is said once, in Numbered.
use Rattle.std.specs.Prelude.{Bool, not, ◌&&◌, ◌||◌, List, [], ◌∷◌, ◌++◌, ℕ, ◌+◌, ◌-◌, leb, ltb, eqb}
use Rattle.sums.specs.Choice.{pick}
use Rattle.sums.specs.Table.{Line, ◌when◌, first}
use Rattle.rows.specs.declared.Row.{Row}
use Rattle.rows.specs.declared.Book.{Book}
use Rattle.rows.specs.View.{View, need_cm, blocked}
use Rattle.rows.specs.Rows.{ceiling, row_at, mode_at, collateral, view, with_row, with_allocated, with_pledged, with_margin, plus_kinds, less_kinds, has_live_client, is_live}
use Rattle.rows.specs.Ranges.{kinds_capped, kinds_within, no_amounts}
use Rattle.book.specs.Sound.{sound_b}
use Rattle.dayfile.specs.declared.Record.{Record}
use Rattle.dayfile.specs.Records.{faults}
use Rattle.rules.specs.declared.Beside.{Beside}

-- codes 1 open TM, 2 open client, 3 open CP
abbrev pub is_opening : Record → Bool
is_opening r = leb 1 r.code && leb r.code 3

-- the row of the account named
abbrev pub named_row : Book → Record → Row
named_row b r = row_at b r.account

-- "8: opening: the account named is of the wrong sort; retiring: account 0". Opening a TM or a CP names the CM, opening a
-- client its TM; an account that is not live was refused with 7 before. Behind refusal 1 only account 0 has the CM's sort.
abbrev pub wrong_sort : Row → Record → Bool
wrong_sort row r =
    (eqb r.code 1 || eqb r.code 3) && not (eqb row.sort 0)
    || eqb r.code 2 && not (eqb row.sort 1)
    || eqb r.code 11 && eqb r.account 0

-- document 02, K11: "9 now means 256 rows held or every number given", for an opening
abbrev pub none_left : ℕ → ℕ → Bool
none_left count next = leb 256 count || leb 65536 next

abbrev pub no_number_left : ℕ → ℕ → Record → Bool
no_number_left count next r = is_opening r && none_left count next

-- "10: receive or pledge would carry an amount past the ceiling"
abbrev pub past_ceiling : Row → Record → Bool
past_ceiling row r =
    eqb r.code 4 && not (kinds_capped (plus_kinds row.received r.kinds))
    || eqb r.code 8 && ltb ceiling (row.pledged + r.pledged)

-- "11: hand back of more than received less allocated, allocate of more than that, release of more than allocated, unpledge
-- of more than pledged, in any kind"
abbrev pub too_much : Row → Record → Bool
too_much row r =
    (eqb r.code 5 || eqb r.code 6) && not (kinds_within r.kinds (less_kinds row.received row.allocated))
    || eqb r.code 7 && not (kinds_within r.kinds row.allocated)
    || eqb r.code 9 && ltb row.pledged r.pledged

-- Document 02, K5: "17 (the serial moves), for release and unpledge from a TM's or the CM's account whose mode is on, after 11 and before 12":
-- in a sound book no other account's mode is on. "Clients' own releases go on".
abbrev pub held_by_mode : Bool → Record → Bool
held_by_mode on r = (eqb r.code 7 || eqb r.code 9) && on

-- the row after a release or unpledge
abbrev pub row_left : Row → Record → Row
row_left row r = pick (eqb r.code 7) (with_allocated row (less_kinds row.allocated r.kinds)) (with_pledged row (row.pledged - r.pledged))

-- Document 02, K7: "the collateral left after a release or unpledge would be below what was blocked", before the record
abbrev pub left_below : Row → ℕ → Record → Bool
left_below row held r = ltb (collateral (row_left row r)) held

-- "12 is now given exactly when" that is so
abbrev pub takes_blocked : Bool → Record → Bool
takes_blocked below r = (eqb r.code 7 || eqb r.code 9) && below

-- the CM's need passes its collateral
abbrev pub need_passes : View → Bool
need_passes v = ltb (v.collateral 0) (need_cm v)

-- the book with the new margin of the account named
abbrev pub new_margin : Book → Record → Book
new_margin b r = with_row b r.account (with_margin (named_row b r) r.margin)

-- "13: after a rising margin the CM's need would pass its collateral" (document 02, K6: "Document 01's line for 13 reads "a rising margin" from here on.")
abbrev pub loses_cover : Row → Bool → Record → Bool
loses_cover row passes r = eqb r.code 10 && (ltb row.margin r.margin && passes)

-- "14: retiring an account with any amount not zero, or a TM with a live client": in a sound book only a TM has clients
abbrev pub not_retirable : Row → Bool → Record → Bool
not_retirable row live_client r = eqb r.code 11 && (not (no_amounts row) || live_client)

-- what the table asks beside the row of the account named: its mode, whether what is left would be below what was blocked, whether the CM's need would pass its collateral, and
-- whether the account has a live client
abbrev pub beside_of : Book → Record → Beside
beside_of b r = record {
  mode = mode_at b r.account;
  below = left_below (named_row b r) (blocked (view b) r.account) r;
  passes = need_passes (view (new_margin b r));
  client = has_live_client b r.account;
}

-- The table for a record, past 1: first the lines that ask of the book only its next serial and whether the account named is live ("7: the account is not live, or its number was
-- never given": a number that no row held has tells the place behind the last row); 4, 5, 6 are the record's faults.
abbrev pub before8 : Bool → ℕ → Record → List Line
before8 alive serial r =
    (3 when not (eqb r.serial serial))
    ∷ (faults r
    ++ ((7 when not alive)
    ∷ []))

-- then those by the row of that account, the number of rows, the next number, and what stands beside the row
abbrev pub from8 : Row → ℕ → ℕ → Beside → Record → List Line
from8 row count next beside r =
    (8 when wrong_sort row r)
    ∷ (9 when no_number_left count next r)
    ∷ (10 when past_ceiling row r)
    ∷ (11 when too_much row r)
    ∷ (17 when held_by_mode beside.mode r)
    ∷ (12 when takes_blocked beside.below r)
    ∷ (13 when loses_cover row beside.passes r)
    ∷ (14 when not_retirable row beside.client r)
    ∷ []

-- the whole table. 2 is about bytes (`next_of` of the crate desk); 15, 16 and 18 to 22 are given by calls that carry no record out.
abbrev pub refusals : Book → Record → List Line
refusals b r =
    (1 when not (sound_b b))
    ∷ (before8 (is_live b r.account) b.serial r
    ++ from8 (named_row b r) b.count b.next (beside_of b r) r)

-- the first that applies, or 0
unfoldable pub refusal_of : Book → Record → ℕ
refusal_of b r = first (refusals b r)
