-- What each code's function does with the words: the lines of the table of refusals that it can meet, and the words that it puts. Only for internal functions.
use Rattle.std.specs.Prelude.{Bool, false, not, ◌&&◌, ◌||◌, List, [], ◌∷◌, ◌≡◌, ℕ, ◌+◌, ◌-◌, ◌≤◌, ◌<◌, eqb, ltb, get_or, set}
use Rattle.sums.specs.Choice.{pick}
use Rattle.sums.specs.Sum.{any}
use Rattle.sums.specs.Table.{Line, ◌when◌, first}
use Rattle.rows.specs.declared.Kinds.{Kinds}
use Rattle.rows.specs.declared.Row.{Row}
use Rattle.rows.specs.declared.Account.{Account}
use Rattle.rows.specs.Rows.{ceiling, collateral, plus_kinds, less_kinds, account_of, opened_row, with_live, with_received, with_allocated, with_pledged, with_margin}
use Rattle.rows.specs.Ranges.{kinds_capped, kinds_within, no_amounts}
use Rattle.rows.specs.Facts.{InRange}
use Rattle.rows.specs.View.{blocked_of}
use Rattle.rows.specs.DeemedUnder.{at_margin, deemed_under_tm, deemed_under_cm, deemed_under_by}
use Rattle.dayfile.specs.declared.Record.{Record}
use Rattle.rules.specs.declared.Beside.{Beside}
use Rattle.rules.specs.Refusals.{none_left, row_left, before8, from8}
use Rattle.rules.specs.Effects.{amended}
use Rattle.rules.specs.Inner.{top_margin, beside_by}
use Rattle.table.specs.declared.Marks.{Marks}
use Rattle.table.specs.Words.{row_in, word_at}
use Rattle.table.specs.Facts.{Sized}
use Rattle.table.specs.Inner.{Anew}
use Rattle.codes.specs.declared.settling.DeemedUnderAfter.{DeemedUnderAfter}

-- the first of the lines before 8 that applies, or 0
unfoldable pub early_number : Bool → ℕ → Record → ℕ
early_number alive serial r = first (before8 alive serial r)

-- the account's number was given, and it is live
abbrev pub alive_in : List Bool → ℕ → ℕ → Bool
alive_in live count a = ltb a count && get_or live a false

-- Of the lines from 8 on, those that each code can meet, by the words that it names: laws of codes.Lines say that they are the table's. First openings (1, 2, 3).
abbrev pub open_lines : Row → ℕ → ℕ → ℕ → List Line
open_lines row code count next = (8 when not (eqb row.sort (pick (eqb code 2) 1 0))) ∷ (9 when none_left count next) ∷ []

-- receive (4)
abbrev pub receive_lines : Row → Kinds → List Line
receive_lines row k = (10 when not (kinds_capped (plus_kinds row.received k))) ∷ []

-- hand back (5) and allocate (6)
abbrev pub left_lines : Row → Kinds → List Line
left_lines row k = (11 when not (kinds_within k (less_kinds row.received row.allocated))) ∷ []

-- the collateral of the row put anew would be below what was blocked of the row, so much being deemed under the account
abbrev pub leaves_below : Row → Row → ℕ → Bool
leaves_below row new under = ltb (collateral new) (blocked_of (row.margin + under) (collateral row))

-- what release and unpledge share
abbrev pub taking_lines : Bool → Bool → List Line
taking_lines on below = (17 when on) ∷ (12 when below) ∷ []

-- release (7)
abbrev pub release_lines : Row → Bool → Bool → Kinds → List Line
release_lines row on below k = (11 when not (kinds_within k row.allocated)) ∷ taking_lines on below

-- pledge (8)
abbrev pub pledge_lines : Row → ℕ → List Line
pledge_lines row x = (10 when ltb ceiling (row.pledged + x)) ∷ []

-- unpledge (9)
abbrev pub unpledge_lines : Row → Bool → Bool → ℕ → List Line
unpledge_lines row on below x = (11 when ltb row.pledged x) ∷ taking_lines on below

-- set margin (10)
abbrev pub margin_lines : Row → ℕ → Bool → List Line
margin_lines row x passes = (13 when (ltb row.margin x && passes)) ∷ []

-- retire (11); codes 12 and 13 meet none of them
abbrev pub retire_lines : Row → ℕ → Bool → List Line
retire_lines row a live_client = (8 when eqb a 0) ∷ (14 when (not (no_amounts row) || live_client)) ∷ []

-- account i is a live client of account a, by three columns
abbrev pub client_in : Marks → ℕ → ℕ → Bool
client_in m a i = eqb (get_or m.sort i 0) 2 && eqb (get_or m.tm i 0) a && get_or m.live i false

-- a TM has a live client
unfoldable pub has_live_client_in : Marks → ℕ → ℕ → Bool
has_live_client_in m count a = pick (eqb (get_or m.sort a 0) 1) (any count (client_in m a)) false

-- the account at place i
abbrev pub account_in : Marks → List ℕ → ℕ → Account
account_in m w i = account_of (row_in m w i)

-- what is deemed under the account at place j: its kept need less its margin (K3)
abbrev pub deemed_under_at : List ℕ → List ℕ → ℕ → ℕ
deemed_under_at w needs j = get_or needs j 0 - word_at w 9 j

abbrev pub deemed_under_in : List ℕ → List ℕ → List ℕ
deemed_under_in w needs = deemed_under_by (word_at w 9) needs

-- what is under its TM and under the CM after an account changed from a to x, where its TM's is given, and so much is under each of the three
abbrev pub deemed_under_after : ℕ → ℕ → ℕ → Account → Account → Account → DeemedUnderAfter
deemed_under_after own clients all a x its = record { tm = deemed_under_tm a x clients; cm = deemed_under_cm a x own its clients all }

abbrev pub deemed_under_after_in : Marks → List ℕ → List ℕ → ℕ → Account → Account → DeemedUnderAfter
deemed_under_after_in m w under i a x = deemed_under_after (get_or under i 0) (get_or under a.tm 0) (get_or under 0 0) a x (account_in m w a.tm)

-- the CM's need would pass its collateral after the margin x
abbrev pub need_passes_in : Marks → List ℕ → List ℕ → ℕ → ℕ → Bool
need_passes_in m w under i x =
    let at = account_in m w in
    ltb (at 0).collateral (top_margin (at i) (at 0) x + (deemed_under_after_in m w under i (at i) (at_margin (at i) x)).cm)

-- what stands beside the row
abbrev pub beside_in : ℕ → Marks → List ℕ → List ℕ → Bool → Record → Beside
beside_in count m w under on r =
    let i = r.account in
    let p = get_or m.tm i 0 in
    let at = account_in m w in
    beside_by on (collateral (row_left (row_in m w i) r)) (at i) (get_or under i 0) (at p) (get_or under p 0) (at 0) (get_or under 0 0) (has_live_client_in m count i) r

-- what a code's function needs of the words at account i
pub record Held (m : Marks) (w under : List ℕ) (i : ℕ) : Type 0 where
  pub size : Sized m w
  pub inside : i < 256
  pub tm : get_or m.tm i 0 < 256
  pub ranges : (j : ℕ) → j < 256 → InRange (row_in m w j)
  pub most : (j : ℕ) → get_or under j 0 ≤ 2_560_000_000_000_000

-- k is the first of the code's own lines that applies, or 0: then the row at place i is put anew as x, and else no word changes
pub record Answers (m : Marks) (w : List ℕ) (i : ℕ) (x : Row) (own : List Line) (k : ℕ) (n : Marks) (u : List ℕ) : Type 0 where
  pub number : k ≡ first own
  pub puts : k ≡ 0 → Anew m w i x n u
  pub stays : (k ≡ 0 → ⊥) → (n ≡ m) × (u ≡ w)

-- each code's function
abbrev pub Opens : Marks → List ℕ → ℕ → ℕ → ℕ → ℕ → ℕ → Marks → List ℕ → Type 0
Opens m w count next code a = Answers m w count (opened_row code a) (open_lines (row_in m w a) code count next)

-- K11, "Numbers are kept with their rows": those after an opening that came to k
abbrev pub numbers_with : ℕ → ℕ → ℕ → List ℕ → List ℕ
numbers_with k count next numbers = pick (eqb k 0) (set numbers count next) numbers

abbrev pub Receives : Marks → List ℕ → ℕ → Kinds → ℕ → List ℕ → Type 0
Receives m w i k x = Answers m w i (with_received (row_in m w i) (plus_kinds (row_in m w i).received k)) (receive_lines (row_in m w i) k) x m

abbrev pub HandsBack : Marks → List ℕ → ℕ → Kinds → ℕ → List ℕ → Type 0
HandsBack m w i k x = Answers m w i (with_received (row_in m w i) (less_kinds (row_in m w i).received k)) (left_lines (row_in m w i) k) x m

abbrev pub Allocates : Marks → List ℕ → ℕ → Kinds → ℕ → List ℕ → Type 0
Allocates m w i k x = Answers m w i (with_allocated (row_in m w i) (plus_kinds (row_in m w i).allocated k)) (left_lines (row_in m w i) k) x m

abbrev pub Releases : Marks → List ℕ → List ℕ → Bool → ℕ → Kinds → ℕ → List ℕ → Type 0
Releases m w under on i k x =
    let row = row_in m w i in
    let new = with_allocated row (less_kinds row.allocated k) in
    Answers m w i new (release_lines row on (leaves_below row new (get_or under i 0)) k) x m

abbrev pub Pledges : Marks → List ℕ → ℕ → ℕ → ℕ → List ℕ → Type 0
Pledges m w i y x = Answers m w i (with_pledged (row_in m w i) ((row_in m w i).pledged + y)) (pledge_lines (row_in m w i) y) x m

abbrev pub Unpledges : Marks → List ℕ → List ℕ → Bool → ℕ → ℕ → ℕ → List ℕ → Type 0
Unpledges m w under on i y x =
    let row = row_in m w i in
    let new = with_pledged row (row.pledged - y) in
    Answers m w i new (unpledge_lines row on (leaves_below row new (get_or under i 0)) y) x m

abbrev pub SetsMargin : Marks → List ℕ → List ℕ → ℕ → ℕ → ℕ → List ℕ → Type 0
SetsMargin m w under i y x = Answers m w i (with_margin (row_in m w i) y) (margin_lines (row_in m w i) y (need_passes_in m w under i y)) x m

abbrev pub SetsPledged : Marks → List ℕ → ℕ → ℕ → ℕ → List ℕ → Type 0
SetsPledged m w i y x = Answers m w i (with_pledged (row_in m w i) y) [] x m

abbrev pub RevisesMargin : Marks → List ℕ → ℕ → ℕ → ℕ → List ℕ → Type 0
RevisesMargin m w i y x = Answers m w i (with_margin (row_in m w i) y) [] x m

abbrev pub Retires : Marks → List ℕ → ℕ → ℕ → ℕ → Marks → Type 0
Retires m w count i x n = Answers m w i (with_live (row_in m w i) false) (retire_lines (row_in m w i) i (has_live_client_in m count i)) x n w

-- the table's answer to a record that is no opening, which no next number changes, and passed the lines before 8, whichever its code, where the account's mode
-- is on or off
abbrev pub Answered : ℕ → Marks → List ℕ → List ℕ → Bool → Record → ℕ → Marks → List ℕ → Type 0
Answered count m w under on r =
    Answers m w r.account (amended (row_in m w r.account) r) (from8 (row_in m w r.account) count 0 (beside_in count m w under on r) r)
