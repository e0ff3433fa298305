-- Document 01: what a record does to the book; with document 02, K2 and K3: and to its modes and kept needs.
use Rattle.std.specs.Prelude.{false, ℕ, ◌+◌, ◌-◌, ◌%◌, leb, eqb}
use Rattle.sums.specs.Choice.{pick, unless_refused}
use Rattle.rows.specs.declared.Row.{Row}
use Rattle.rows.specs.declared.Book.{Book}
use Rattle.rows.specs.Rows.{opened_row, with_live, with_received, with_allocated, with_pledged, with_margin, with_serial, with_row, with_new, plus_kinds, less_kinds}
use Rattle.rows.specs.KeptNeeds.{settled}
use Rattle.dayfile.specs.declared.Record.{Record}
use Rattle.rules.specs.declared.Change.{Change}
use Rattle.rules.specs.declared.Change.TheVariants.{Refuse, Put, Open}
use Rattle.rules.specs.Refusals.{is_opening, named_row, refusal_of}

-- "Receive adds to received; hand back takes from it; allocate adds to allocated; release takes from it." Pledge and
-- unpledge do so to pledged, 10 sets the margin, and 11 retires. Document 02, K8: "Code 12 .. sets pledged to a new value, code 13 .. sets a margin".
unfoldable pub amended : Row → Record → Row
amended row r =
    pick (eqb r.code 4) (with_received row (plus_kinds row.received r.kinds))
    (pick (eqb r.code 5) (with_received row (less_kinds row.received r.kinds))
    (pick (eqb r.code 6) (with_allocated row (plus_kinds row.allocated r.kinds))
    (pick (eqb r.code 7) (with_allocated row (less_kinds row.allocated r.kinds))
    (pick (eqb r.code 8) (with_pledged row (row.pledged + r.pledged))
    (pick (eqb r.code 9) (with_pledged row (row.pledged - r.pledged))
    (pick (eqb r.code 10) (with_margin row r.margin)
    (pick (eqb r.code 12) (with_pledged row r.pledged)
    (pick (eqb r.code 13) (with_margin row r.margin)
    (with_live row false)))))))))  -- 11

-- what a record that no refusal meets does, whose account's row stands at a place: an opened row's TM is the account named (0 for a TM
-- and a CP), told by that place
abbrev pub effect_of : Row → ℕ → Record → Change
effect_of row place r = pick (is_opening r) (Open (opened_row r.code place)) (Put (amended row r))

-- what a record does: its refusal, or its effect
unfoldable pub change_of : Book → Record → Change
change_of b r = unless_refused (refusal_of b r) (effect_of (named_row b r) r.account r) Refuse

-- "the serial after 65,535 is 0"
abbrev pub next_serial : ℕ → ℕ
next_serial serial = (serial + 1) % 65536

-- "which moves on by one as it does for a record carried out"
abbrev pub moved_on : Book → Book
moved_on b = with_serial b (next_serial b.serial)

-- "Refusals 1, 2 and 3 change nothing. Refusals 4 to 14" (and K5's 17) "change the serial only"; "An instruction that passes changes one row
-- and the serial, no more, except that an opening also adds one to the number of accounts". Modes and kept needs come after: book_after.
abbrev pub changed_by : Book → ℕ → Change → Book
changed_by b place (Refuse n) = pick (leb n 3) b (moved_on b)
changed_by b place (Put row) = moved_on (with_row b place row)
changed_by b place (Open row) = moved_on (with_new b row)

-- Document 02, K2: "It is looked at after every record carried out."; "a record may change modes besides its row". K3: "a record may
-- also change kept needs". A refusal looks at nobody and leaves them.
abbrev pub book_after : Book → ℕ → Change → Book
book_after b place (Refuse n) = changed_by b place (Refuse n)
book_after b place (Put row) = settled (changed_by b place (Put row))
book_after b place (Open row) = settled (changed_by b place (Open row))
