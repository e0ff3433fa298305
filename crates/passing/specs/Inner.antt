-- Only for internal functions: no promise of a public call cites it. Up to where each code's amount passes, in closed form.
use Rattle.std.specs.Prelude.{Bool, false, not, ◌||◌, List, [], ◌∷◌, ◌≡◌, ℕ, ◌+◌, ◌-◌, ◌*◌, ◌/◌, ◌<◌, min, eqb, ltb, get_or}
use Rattle.sums.specs.Choice.{pick}
use Rattle.sums.specs.Sum.{only}
use Rattle.sums.specs.Table.{◌when◌, first}
use Rattle.rows.specs.declared.Kinds.{Kinds}
use Rattle.rows.specs.declared.Row.{Row}
use Rattle.rows.specs.declared.Book.{Book}
use Rattle.rows.specs.declared.Rule.TheVariants.{New}
use Rattle.rows.specs.View.{View, need_cm, free_of, free}
use Rattle.rows.specs.Rows.{ceiling, counted, collateral, account_of, row_at, mode_at, view}
use Rattle.rows.specs.Facts.{InRange}
use Rattle.rows.specs.DeemedUnder.{need_by}
use Rattle.table.specs.declared.Marks.{Marks}
use Rattle.table.specs.Words.{row_in, book_from}
use Rattle.book.specs.Facts.{Sound}
use Rattle.passing.specs.declared.Largest.{Largest}
use Rattle.passing.specs.declared.limits.Limits.{Limits}
use Rattle.dayfile.specs.declared.Record.{Record}
use Rattle.passing.specs.Most.{unless_with, most_of}

-- the kind that a second mark byte names alone
abbrev pub kind_named : ℕ → Kinds → ℕ
kind_named named k = pick (eqb named 1) k.cash (pick (eqb named 2) k.deposits (pick (eqb named 4) k.guarantees k.securities))

-- K7: the least face value of government securities that counts for so much
abbrev pub face_for : ℕ → ℕ
face_for worth = (10 * worth + 8) / 9

-- what may be taken out of a kind where so much is free: government securities until what is left counts for no less than they did less what is free
abbrev pub takeable : ℕ → Row → ℕ → ℕ
takeable named row spare = let s = row.allocated.securities in pick (eqb named 8) (s - face_for (counted New s - spare)) spare

-- a margin may rise by what is free of the account, of its TM and of the CM; where there is a shortfall (K8), not at all
abbrev pub raised_to : ℕ → ℕ → Bool → ℕ → ℕ → ℕ → ℕ
raised_to sort margin short own its top = pick short margin (margin + own + only (eqb sort 2) its + only (not (eqb sort 0)) top)

abbrev pub raisable : View → ℕ → ℕ
raisable v i = raised_to (v.sort i) (v.margin i) (ltb (v.collateral 0) (need_cm v)) (free v i) (free v (v.tm i)) (free v 0)

-- one bound alone
abbrev pub up_to : ℕ → ℕ → Limits
up_to number within = record { number = number; within = within; held = false; spare = ceiling }

-- up to where an amount passes, by code
abbrev pub limits_of : ℕ → ℕ → Row → Bool → ℕ → ℕ → Limits
limits_of code named row on spare raised =
    pick (eqb code 4) (up_to 10 (ceiling - kind_named named row.received))
    (pick (eqb code 5 || eqb code 6) (up_to 11 (kind_named named row.received - kind_named named row.allocated))
    (pick (eqb code 7) (record { number = 11; within = kind_named named row.allocated; held = on; spare = takeable named row spare })
    (pick (eqb code 8) (up_to 10 (ceiling - row.pledged))
    (pick (eqb code 9) (record { number = 11; within = row.pledged; held = on; spare = spare })
    (pick (eqb code 10) (up_to 13 raised)
    (up_to 13 ceiling))))))  -- 12, 13: whatever it is

-- of the account at place i
abbrev pub limits_in : Book → ℕ → ℕ → ℕ → Limits
limits_in b i code named = limits_of code named (row_at b i) (mode_at b i) (free (view b) i) (raisable (view b) i)

-- what is free of the account at place i, by the words and the need kept there (K3)
abbrev pub free_in : Marks → List ℕ → List ℕ → ℕ → ℕ
free_in m w needs i = free_of (need_by (account_of (row_in m w i)) (get_or needs i 0)) (collateral (row_in m w i))

abbrev pub short_in : Marks → List ℕ → List ℕ → Bool
short_in m w needs = ltb (collateral (row_in m w 0)) (get_or needs 0 0)

abbrev pub raisable_by : Marks → List ℕ → List ℕ → ℕ → ℕ
raisable_by m w needs i =
    let row = row_in m w i in
    raised_to row.sort row.margin (short_in m w needs) (free_in m w needs i) (free_in m w needs row.tm) (free_in m w needs 0)

-- the limits by the words: at a sound book those above (law OfBook.limits-by)
abbrev pub limits_by : Marks → List ℕ → List Bool → List ℕ → ℕ → ℕ → ℕ → Limits
limits_by m w modes needs i code named = limits_of code named (row_in m w i) (get_or modes i false) (free_in m w needs i) (raisable_by m w needs i)

-- the rows that they look at are in range: the account's, its TM's and the CM's
pub record Within (m : Marks) (w : List ℕ) (i : ℕ) : Type 0 where
  pub place : i < 256
  pub tm : (row_in m w i).tm < 256
  pub own : InRange (row_in m w i)
  pub its : InRange (row_in m w (row_in m w i).tm)
  pub top : InRange (row_in m w 0)

-- the arrays are a sound book's, whatever its serial and its next number are
pub record Lent (count : ℕ) (m : Marks) (w : List ℕ) (modes : List Bool) (needs numbers : List ℕ) : Type 0 where
  pub serial : ℕ
  pub next : ℕ
  pub sound : Sound (book_from count serial m w modes needs next numbers)

-- what `most` gives at each such book
abbrev pub IsMost : ℕ → Marks → List ℕ → List Bool → List ℕ → List ℕ → Record → Largest → Type 0
IsMost count m w modes needs numbers r x =
    (serial next : ℕ) → Sound (book_from count serial m w modes needs next numbers) → x ≡ most_of (book_from count serial m w modes needs next numbers) r

-- the refusal that an amount meets, or 0: K5's 17 after 11 and before 12
unfoldable pub refusal_at : Limits → ℕ → ℕ
refusal_at l x = first ((l.number when ltb l.within x) ∷ (17 when l.held) ∷ (12 when ltb l.spare x) ∷ [])

abbrev pub top_of : Limits → ℕ
top_of l = min (min l.within l.spare) ceiling

-- what they give, with the least amount that the code allows
unfoldable pub largest_by : Limits → ℕ → Largest
largest_by l least = unless_with (refusal_at l least) (top_of l)
