-- Document 01, 'A sound book', with document 02, K2, K3, K8 and K11: as the test that refusal 1 is about (as facts: Facts.antt).
use Rattle.std.specs.Prelude.{Bool, not, ◌&&◌, ◌||◌, List, ℕ, ◌-◌, eqb, ltb, leb, length, get_or}
use Rattle.sums.specs.Sum.{all}
use Rattle.sums.specs.Choice.{pick}
use Rattle.rows.specs.declared.Row.{Row}
use Rattle.rows.specs.declared.Book.{Book}
use Rattle.rows.specs.declared.Rule.{Rule}
use Rattle.rows.specs.declared.Rule.TheVariants.{New}
use Rattle.rows.specs.View.{need_cm}
use Rattle.rows.specs.Rows.{row_at, mode_at, places, collateral_by, view_by}
use Rattle.rows.specs.Ranges.{no_amounts, in_range}
use Rattle.rows.specs.KeptNeeds.{all_kept}

-- "rows beyond the number are all zero"
abbrev pub is_blank : Row → Bool
is_blank r = eqb r.sort 0 && not r.live && eqb r.tm 0 && no_amounts r

-- "account 0 is the CM and live"; its TM word is 0, as of every row that is no client's
abbrev pub is_top : Row → Bool
is_top r = eqb r.sort 0 && r.live && eqb r.tm 0

-- "a client whose TM is a lower-numbered TM row. A live client's TM is live." Row t is what the client i names.
abbrev pub good_client : ℕ → Row → Row → Bool
good_client i r t = eqb r.sort 2 && ltb r.tm i && eqb t.sort 1 && (not r.live || t.live)

-- "Every other account is a TM, a CP, or a client": the TM word of a TM and a CP is 0
abbrev pub good_sort : ℕ → Row → Row → Bool
good_sort i r t = (eqb r.sort 1 || eqb r.sort 3) && eqb r.tm 0 || good_client i r t

-- "A retired account's amounts are all zero."
abbrev pub good_retired : Row → Bool
good_retired r = r.live || no_amounts r

-- row i of a book with n accounts, where t is the row that it names as its TM
unfoldable pub good_row : ℕ → ℕ → Row → Row → Bool
good_row n i r t = pick (ltb i n) (pick (eqb i 0) (is_top r) (good_sort i r t) && good_retired r && in_range r) (is_blank r)

-- row i of a book
unfoldable pub row_sound : Book → ℕ → Bool
row_sound b i = good_row b.count i (row_at b i) (row_at b (row_at b i).tm)

-- document 02, K2: "In a sound book only a live TM or the CM can be in the mode.": the account at place i, of this sort, live or not, whose mode
-- is m
abbrev pub good_mode : ℕ → ℕ → Bool → Bool → Bool
good_mode i sort live m = not m || eqb i 0 || eqb sort 1 && live

-- the mode at place i of a book
unfoldable pub mode_sound : Book → ℕ → Bool
mode_sound b i = good_mode i (row_at b i).sort (row_at b i).live (mode_at b i)

-- document 02, K11: "rows in a sound book rise by number, all below the next to be given"; row 0 is the CM's, which has number 0, and a row beyond the
-- number of rows has number 0. The number n of place i, behind the one before it, of a book with so many rows and this next number
abbrev pub good_number : ℕ → ℕ → ℕ → ℕ → ℕ → Bool
good_number count next i before n = pick (ltb i count) (pick (eqb i 0) (eqb n 0) (ltb before n) && ltb n next) (eqb n 0)

-- "go up to 65,535": the next to be given is at most one more. A value of the type has 256 numbers: the test of it holds of each.
unfoldable pub numbers_sound : ℕ → ℕ → List ℕ → Bool
numbers_sound count next numbers =
    leb next 65536 && eqb (length numbers) 256 && all 256 (λ i. good_number count next i (get_or numbers (i - 1) 0) (get_or numbers i 0))

-- "The number of accounts is 1 to 256"; every row, every mode and every number. A value of the type has 256 rows: the test of it holds of each.
unfoldable pub formed_b : Book → Bool
formed_b b =
    leb 1 b.count && leb b.count 256 && all 256 (row_sound b) && eqb (places b) 256 && all 256 (mode_sound b)
    && numbers_sound b.count b.next b.numbers

-- document 02, K3: "A sound book now includes that each kept need equals the need worked out afresh", by a rule (K7)
abbrev pub kept_by : Rule → Book → Bool
kept_by rule b = all_kept (view_by rule b) b.needs

-- 'A sound book': well formed, and its needs kept. Document 02, K8: "A sound book no longer has to be covered"
unfoldable pub sound_b : Book → Bool
sound_b b = formed_b b && kept_by New b

-- document 01's "The CM's need, defined below, is at most the CM's collateral.", by a rule: asked where a book is taken over
unfoldable pub covered_by : Rule → Book → Bool
covered_by rule b = leb (need_cm (view_by rule b)) (collateral_by rule (row_at b 0))
