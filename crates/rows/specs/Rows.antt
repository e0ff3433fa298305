-- Document 01, 'Amounts and sizes': a book's rows, its view, and a fresh book. With document 02, K2: its modes; K3: its kept needs; K7: what
-- government securities count for; K11: its rows' numbers.
use Rattle.std.specs.Prelude.{Bool, true, false, ◌&&◌, List, ◌∷◌, ℕ, ◌+◌, ◌-◌, ◌/◌, eqb, ltb, length, get_or, set, replicate}
use Rattle.sums.specs.Sum.{any, least}
use Rattle.rows.specs.declared.Kinds.{Kinds}
use Rattle.rows.specs.declared.Row.{Row}
use Rattle.rows.specs.declared.Account.{Account}
use Rattle.rows.specs.declared.Rule.{Rule}
use Rattle.rows.specs.declared.Rule.TheVariants.{Old, New}
use Rattle.rows.specs.declared.Book.{Book}
use Rattle.rows.specs.View.{View, is_client_of}

-- "The ceiling is 10,000,000,000,000 paise."
abbrev pub ceiling : ℕ
ceiling = 10_000_000_000_000

-- no amount of any kind
abbrev pub no_kinds : Kinds
no_kinds = record { cash = 0; deposits = 0; guarantees = 0; securities = 0 }

-- all zero
abbrev pub no_row : Row
no_row = record { sort = 0; live = false; tm = 0; received = no_kinds; allocated = no_kinds; pledged = 0; margin = 0 }

-- "its row is live with all amounts 0": a row just opened
abbrev pub opened_row : ℕ → ℕ → Row
opened_row sort tm = record { sort = sort; live = true; tm = tm; received = no_kinds; allocated = no_kinds; pledged = 0; margin = 0 }

-- "Receive adds to received; .. allocate adds to allocated": kind by kind
abbrev pub plus_kinds : Kinds → Kinds → Kinds
plus_kinds a b = record {
  cash = a.cash + b.cash;
  deposits = a.deposits + b.deposits;
  guarantees = a.guarantees + b.guarantees;
  securities = a.securities + b.securities;
}

-- "hand back takes from it; .. release takes from it": kind by kind
abbrev pub less_kinds : Kinds → Kinds → Kinds
less_kinds a b = record {
  cash = a.cash - b.cash;
  deposits = a.deposits - b.deposits;
  guarantees = a.guarantees - b.guarantees;
  securities = a.securities - b.securities;
}

-- the row at place i
abbrev pub row_at : Book → ℕ → Row
row_at b i = get_or b.rows i no_row

-- "Mode is part of the book": the mode of the account at place i
abbrev pub mode_at : Book → ℕ → Bool
mode_at b i = get_or b.modes i false

-- K3, "Keep every TM's and the CM's need beside the rows": the need kept at place i
abbrev pub need_at : Book → ℕ → ℕ
need_at b i = get_or b.needs i 0

-- how many places the table has: 256, by its type
abbrev pub places : Book → ℕ
places b = length b.rows

-- Document 02, K11: "Numbers are kept with their rows": the number of the row at place i
abbrev pub number_at : Book → ℕ → ℕ
number_at b i = get_or b.numbers i 0

-- the first of so many places that has the number, or how many there are where none has it
unfoldable pub place_among : List ℕ → ℕ → ℕ → ℕ
place_among numbers count number = least count (λ i. eqb (get_or numbers i 0) number)

-- the place of the row held that a number names, or the number of rows held, where no row is, for one that no row held has: "A retired account
-- keeps its row and number" until it is archived
abbrev pub place_of : Book → ℕ → ℕ
place_of b number = place_among b.numbers b.count number

-- Document 02, K7: what government securities of this face value count for. "Until now we counted them in full."; now "less a tenth, the tenth
-- rounded up to a paisa. One paisa therefore counts as nothing."
unfoldable pub counted : Rule → ℕ → ℕ
counted Old face = face
counted New face = face - (face + 9) / 10

-- "Collateral becomes cash, fixed deposits, guarantees and pledged, plus allocated government securities less a tenth"; by the old rule it is
-- document 01's "the sum of the four allocated amounts and pledged"
abbrev pub collateral_by : Rule → Row → ℕ
collateral_by rule r = r.allocated.cash + r.allocated.deposits + r.allocated.guarantees + r.pledged + counted rule r.allocated.securities

-- what needs and the close-out see of a row
abbrev pub account_by : Rule → Row → Account
account_by rule r = record { sort = r.sort; tm = r.tm; margin = r.margin; collateral = collateral_by rule r }

-- a book as needs and the close-out see it
abbrev pub view_by : Rule → Book → View
view_by rule b = record {
  count = b.count;
  sort = λ i. (row_at b i).sort;
  tm = λ i. (row_at b i).tm;
  collateral = λ i. collateral_by rule (row_at b i);
  margin = λ i. (row_at b i).margin;
}

-- by the new rule, which all calls go by; the old one serves a book that is taken over
abbrev pub collateral : Row → ℕ
collateral r = collateral_by New r

abbrev pub account_of : Row → Account
account_of r = account_by New r

abbrev pub view : Book → View
view b = view_by New b

-- "number 0 is the CM and is there from the start, live. In a fresh book it is the only account and all amounts are 0.";
-- "the next serial, 0 at first"; a mode is "off at first"; where all amounts are 0 so are the needs;
-- the next number is 1
unfoldable pub fresh_book : Book
fresh_book = record { count = 1; serial = 0; rows = opened_row 0 0 ∷ replicate 255 no_row; modes = replicate 256 false; needs = replicate 256 0; next = 1; numbers = replicate 256 0 }

-- A row with one of its words put anew.
abbrev pub with_live : Row → Bool → Row
with_live r x = record { sort = r.sort; live = x; tm = r.tm; received = r.received; allocated = r.allocated; pledged = r.pledged; margin = r.margin }

abbrev pub with_received : Row → Kinds → Row
with_received r x = record { sort = r.sort; live = r.live; tm = r.tm; received = x; allocated = r.allocated; pledged = r.pledged; margin = r.margin }

abbrev pub with_allocated : Row → Kinds → Row
with_allocated r x = record { sort = r.sort; live = r.live; tm = r.tm; received = r.received; allocated = x; pledged = r.pledged; margin = r.margin }

abbrev pub with_pledged : Row → ℕ → Row
with_pledged r x = record { sort = r.sort; live = r.live; tm = r.tm; received = r.received; allocated = r.allocated; pledged = x; margin = r.margin }

abbrev pub with_margin : Row → ℕ → Row
with_margin r x = record { sort = r.sort; live = r.live; tm = r.tm; received = r.received; allocated = r.allocated; pledged = r.pledged; margin = x }

-- the book with row i put anew
abbrev pub with_row : Book → ℕ → Row → Book
with_row b i r = record { count = b.count; serial = b.serial; rows = set b.rows i r; modes = b.modes; needs = b.needs; next = b.next; numbers = b.numbers }

-- the book with another next serial
abbrev pub with_serial : Book → ℕ → Book
with_serial b n = record { count = b.count; serial = n; rows = b.rows; modes = b.modes; needs = b.needs; next = b.next; numbers = b.numbers }

-- the book with other modes
abbrev pub with_modes : Book → List Bool → Book
with_modes b modes = record { count = b.count; serial = b.serial; rows = b.rows; modes = modes; needs = b.needs; next = b.next; numbers = b.numbers }

-- the book with other kept needs
abbrev pub with_needs : Book → List ℕ → Book
with_needs b needs = record { count = b.count; serial = b.serial; rows = b.rows; modes = b.modes; needs = needs; next = b.next; numbers = b.numbers }

-- "The next opening takes the next number.": the book with one account more
abbrev pub with_new : Book → Row → Book
with_new b r = record { count = b.count + 1; serial = b.serial; rows = set b.rows b.count r; modes = b.modes; needs = b.needs; next = b.next + 1; numbers = set b.numbers b.count b.next }

-- a row is held at the place, and it is live
abbrev pub is_live : Book → ℕ → Bool
is_live b place = ltb place b.count && (row_at b place).live

-- account i is a live client of account t
abbrev pub is_live_client_of : Book → ℕ → ℕ → Bool
is_live_client_of b t i = is_client_of (view b) t i && (row_at b i).live

-- "a TM with a live client"
unfoldable pub has_live_client : Book → ℕ → Bool
has_live_client b t = any b.count (is_live_client_of b t)
