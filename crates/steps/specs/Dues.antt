-- What an account leaves to the one that answers for it, carried up from the account named as far as it moves: only for internal functions.
use Rattle.std.specs.Prelude.{◌≡◌, ℕ, ◌+◌, ◌-◌, ◌*◌, ◌<◌, ◌≤◌, Bool, false, List, length, get_or, ◌==◌, nat_le, ◌≢◌, slice_index, slice_index_or, slice_set}
use Rattle.rows.specs.Rows.{ceiling, counted}
use Rattle.rows.specs.declared.Rule.TheVariants.{New}
use Rattle.rows.specs.Modes.{mode_after}
use Rattle.table.specs.declared.Marks.{Marks}
use Rattle.table.specs.Words.{word_at}
use Rattle.steps.specs.declared.Lent.{Lent}
use Rattle.steps.specs.declared.following.Due.{Due}
use Rattle.sums.specs.Choice.{pick}
use Rattle.steps.specs.Looks.{Past, needed_since, excess_since, looked_since}

-- an account's collateral, by its words
abbrev pub collateral_in : List ℕ → ℕ → ℕ
collateral_in w i = word_at w 4 i + word_at w 5 i + word_at w 6 i + word_at w 8 i + counted New (word_at w 7 i)

-- each account's collateral, kept
pub record Keeps (w kept : List ℕ) : Type 0 where
  pub size : length kept ≡ 256
  pub each : (j : ℕ) → j < 256 → slice_index kept j ≡ collateral_in w j

-- the words that make up an account's collateral are at most the ceiling
pub record Ranging (w : List ℕ) (i : ℕ) : Type 0 where
  pub inside : i < 256
  pub cash : word_at w 4 i ≤ ceiling
  pub deposits : word_at w 5 i ≤ ceiling
  pub guarantees : word_at w 6 i ≤ ceiling
  pub securities : word_at w 7 i ≤ ceiling
  pub pledged : word_at w 8 i ≤ ceiling

abbrev pub AllRanging : List ℕ → Type 0
AllRanging w = (i : ℕ) → i < 256 → Ranging w i

-- what an account with these figures leaves to the one that answers for it
abbrev pub due_of : ℕ → ℕ → ℕ → ℕ → Due
due_of margin under excess collateral = record { plain = margin + under - collateral; tenths = 10 * margin + excess - 9 * collateral }

pub record Small (most : ℕ) (d : Due) : Type 0 where
  pub plain : d.plain ≤ most
  pub tenths : d.tenths ≤ most

-- the figures of the account at place j fit
pub record Fits (most : ℕ) (l : Lent) (j : ℕ) : Type 0 where
  pub inside : j < 256
  pub collaterals : length l.kept ≡ 256
  pub wide : length l.needs ≡ 256
  pub long : length l.excess ≡ 256
  pub margin : word_at l.words 9 j ≤ ceiling
  pub collateral : get_or l.kept j 0 ≤ 100_000_000_000_000
  pub under : get_or l.needs j 0 - word_at l.words 9 j ≤ most
  pub over : get_or l.excess j 0 ≤ most

-- they are in step: its need is kept, and a look leaves its mode
pub record Steady (l : Lent) (before : List Bool) (j : ℕ) : Type 0 where
  pub fits : Fits 100_000_000_000_000_000 l j
  pub own : get_or l.kept j 0 ≡ collateral_in l.words j
  pub need : word_at l.words 9 j ≤ slice_index l.needs j
  pub look : get_or l.modes j false ≡ mode_after (10 * word_at l.words 9 j + slice_index l.excess j) (slice_index l.kept j) (slice_index_or before j false)

-- need, excess and mode at place t, after one under it left it new in place of old
abbrev pub need_risen : List ℕ → List ℕ → ℕ → Due → Due → ℕ
need_risen w needs t old new = word_at w 9 t + (slice_index needs t - word_at w 9 t + new.plain - old.plain)

abbrev pub excess_risen : List ℕ → ℕ → Due → Due → ℕ
excess_risen excess t old new = slice_index excess t + new.tenths - old.tenths

abbrev pub mode_risen : List ℕ → List ℕ → List ℕ → List Bool → ℕ → Due → Due → Bool
mode_risen w kept excess before t old new = mode_after (10 * word_at w 9 t + excess_risen excess t old new) (slice_index kept t) (slice_index_or before t false)

pub record Risen (l : Lent) (before : List Bool) (t : ℕ) (old new : Due) (k : Lent) : Type 0 where
  pub need : k.needs ≡ slice_set l.needs t (need_risen l.words l.needs t old new)
  pub over : k.excess ≡ slice_set l.excess t (excess_risen l.excess t old new)
  pub mode : k.modes ≡ slice_set l.modes t (mode_risen l.words l.kept l.excess before t old new)
  pub rest : k ≡ record l { needs = k.needs; excess = k.excess; modes = k.modes }

-- what the account at place t leaves, before and after that
abbrev pub due_at : Lent → ℕ → Due
due_at l t = due_of (word_at l.words 9 t) (slice_index l.needs t - word_at l.words 9 t) (slice_index l.excess t) (slice_index l.kept t)

abbrev pub due_risen : Lent → ℕ → Due → Due → Due
due_risen l t old new =
    due_of (word_at l.words 9 t) (slice_index l.needs t - word_at l.words 9 t + new.plain - old.plain) (excess_risen l.excess t old new) (slice_index l.kept t)

-- the same at place t, another than the CM's, and at the CM's
pub record Lifted (l : Lent) (before : List Bool) (t : ℕ) (old new : Due) (k : Lent) : Type 0 where
  pub need : k.needs ≡ slice_set (slice_set l.needs t (need_risen l.words l.needs t old new)) 0 (need_risen l.words l.needs 0 (due_at l t) (due_risen l t old new))
  pub over : k.excess ≡ slice_set (slice_set l.excess t (excess_risen l.excess t old new)) 0 (excess_risen l.excess 0 (due_at l t) (due_risen l t old new))
  pub mode : k.modes ≡ slice_set (slice_set l.modes t (mode_risen l.words l.kept l.excess before t old new)) 0 (mode_risen l.words l.kept l.excess before 0 (due_at l t) (due_risen l t old new))
  pub rest : k ≡ record l { needs = k.needs; excess = k.excess; modes = k.modes }

-- the account at place i, of which nothing is kept but its collateral
pub record Bare (l : Lent) (i : ℕ) : Type 0 where
  pub need : get_or l.needs i 0 ≡ 0
  pub over : get_or l.excess i 0 ≡ 0
  pub mode : get_or l.modes i false ≡ false

-- by its sort: who answers for it, and those are in step
pub data Stands (l : Lent) (before : List Bool) (i : ℕ) : Type 0 where
  cm : i ≡ 0 → Stands l before i
  tm : (i ≢ 0) → slice_index l.marks.sort i ≡ 1 → slice_index l.marks.tm i ≡ 0 → Steady l before 0 → Stands l before i
  client : (i ≢ 0) → slice_index l.marks.sort i ≡ 2 → 0 < slice_index l.marks.tm i → slice_index l.marks.tm i < i → slice_index l.marks.sort (slice_index l.marks.tm i) ≡ 1 → Bare l i → Steady l before (slice_index l.marks.tm i) → Steady l before 0 → Stands l before i
  cp : (i ≢ 0) → slice_index l.marks.sort i ≡ 3 → slice_index l.marks.tm i ≡ 0 → Bare l i → Steady l before 0 → Stands l before i

-- a need and a mode are kept of the CM and of TMs
abbrev pub has_need : Marks → ℕ → Bool
has_need m i = nat_le (slice_index m.sort i) 1

-- the words are those after a record that left the account at place i another row; the margin m0, and all lists, are those before it
pub record Following (l : Lent) (before : List Bool) (i m0 : ℕ) : Type 0 where
  pub ranging : Ranging l.words i
  pub margin : word_at l.words 9 i ≤ ceiling
  pub was : m0 ≤ ceiling
  pub collaterals : length l.kept ≡ 256
  pub wide : length l.needs ≡ 256
  pub long : length l.excess ≡ 256
  pub collateral : get_or l.kept i 0 ≤ 100_000_000_000_000
  pub under : get_or l.needs i 0 - m0 ≤ 25_600_000_000_000_000
  pub over : get_or l.excess i 0 ≤ 25_600_000_000_000_000
  pub tms : length l.marks.tm ≡ 256
  pub sorts : length l.marks.sort ≡ 256
  pub top : (slice_index l.marks.sort 0 ≡ 0) × (slice_index l.marks.tm 0 ≡ 0)
  pub stands : Stands l before i

-- what stood before it
abbrev pub margin_before : List ℕ → ℕ → ℕ → ℕ → ℕ
margin_before w i m0 j = pick (j == i) m0 (word_at w 9 j)

abbrev pub past_in : Marks → List ℕ → List ℕ → List ℕ → ℕ → ℕ → Past
past_in m w kept needs i m0 =
    let t = get_or m.tm i 0 in
    record {
      place = i;
      own = record { sort = slice_index m.sort i; tm = t; margin = m0; collateral = slice_index kept i };
      its = record { sort = slice_index m.sort t; tm = slice_index m.tm t; margin = margin_before w i m0 t; collateral = slice_index kept t };
      under = slice_index needs i - m0;
      clients = slice_index needs t - margin_before w i m0 t;
      all = slice_index needs 0 - margin_before w i m0 0;
    }

pub record Followed (l : Lent) (before : List Bool) (i m0 : ℕ) (k : Lent) : Type 0 where
  pub own : k.kept ≡ slice_set l.kept i (collateral_in l.words i)
  pub need : k.needs ≡ needed_since l.marks l.words l.needs (past_in l.marks l.words l.kept l.needs i m0)
  pub over : k.excess ≡ excess_since l.marks l.words l.excess (past_in l.marks l.words l.kept l.needs i m0)
  pub mode : k.modes ≡ looked_since l.marks l.words l.excess before l.modes (past_in l.marks l.words l.kept l.needs i m0)
  pub rest : k ≡ record l { kept = k.kept; modes = k.modes; needs = k.needs; excess = k.excess }
