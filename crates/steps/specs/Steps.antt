-- A record carried out on the table's words in place, against the book of the old order: only for internal functions.
use Rattle.std.specs.Prelude.{◌≡◌, ℕ, ◌+◌, Bool, ◌&&◌, List, length, ◌==◌, nat_le}
use Rattle.sums.specs.Choice.{pick}
use Rattle.rows.specs.declared.Book.{Book}
use Rattle.rows.specs.Rows.{view}
use Rattle.rows.specs.Modes.{looked}
use Rattle.rows.specs.Inner.{in_tenths}
use Rattle.rows.specs.DeemedUnder.{DeemedUnder}
use Rattle.book.specs.Facts.{SoundRows, Sound}
use Rattle.dayfile.specs.declared.Record.{Record}
use Rattle.rules.specs.declared.Change.{Change}
use Rattle.rules.specs.declared.Change.TheVariants.{Refuse, Put, Open}
use Rattle.rules.specs.Effects.{change_of, changed_by, book_after, next_serial}
use Rattle.rules.specs.Numbered.{placed}
use Rattle.codes.specs.Own.{alive_in}
use Rattle.codes.specs.Asking.{meant, asked_of}
use Rattle.table.specs.declared.Marks.{Marks}
use Rattle.table.specs.Words.{book_from}
use Rattle.table.specs.Facts.{Sized}
use Rattle.steps.specs.declared.At.{At}
use Rattle.steps.specs.declared.Gone.{Gone}
use Rattle.steps.specs.declared.Request.{Request}
use Rattle.steps.specs.declared.Lent.{Lent}
use Rattle.steps.specs.Dues.{Keeps}

-- the words, the modes, the kept needs and the numbers are a sound book's
pub record Ready (count serial : ℕ) (m : Marks) (w : List ℕ) (modes : List Bool) (needs : List ℕ) (next : ℕ) (numbers : List ℕ) : Type 0 where
  pub size : Sized m w
  pub sound : Sound (book_from count serial m w modes needs next numbers)

-- what a change shows of its record: the refusal or 0, the number given or 0, and 1 for one carried out
abbrev pub refusal_shown : Change → ℕ
refusal_shown (Refuse n) = n
refusal_shown (Put row) = 0
refusal_shown (Open row) = 0

abbrev pub given_shown : ℕ → Change → ℕ
given_shown next (Refuse n) = 0
given_shown next (Put row) = 0
given_shown next (Open row) = next

abbrev pub carried_shown : Change → ℕ
carried_shown (Refuse n) = 0
carried_shown (Put row) = 1
carried_shown (Open row) = 1

-- a record, its account told by the place of its row, was decided at the words w, came to x and left the words u, before needs and modes follow
pub record Decided (count serial : ℕ) (m : Marks) (w : List ℕ) (modes : List Bool) (needs : List ℕ) (next : ℕ) (numbers : List ℕ) (r : Record) (x : Gone) (n : Marks) (u numbers' : List ℕ) : Type 0 where
  pub refusal : x.refusal ≡ refusal_shown (change_of (book_from count serial m w modes needs next numbers) r)
  pub given : x.given ≡ given_shown next (change_of (book_from count serial m w modes needs next numbers) r)
  pub carried : x.carried ≡ carried_shown (change_of (book_from count serial m w modes needs next numbers) r)
  pub book : book_from x.count x.serial n u modes needs x.next numbers'
      ≡ changed_by (book_from count serial m w modes needs next numbers) r.account (change_of (book_from count serial m w modes needs next numbers) r)
  pub size : Sized n u
  pub rows : SoundRows (book_from x.count x.serial n u modes needs x.next numbers')

-- refused with the number k
abbrev pub stayed : ℕ → ℕ → ℕ → ℕ → Gone
stayed k count serial next = record { refusal = k; given = 0; carried = 0; count = count; serial = pick (nat_le k 3) serial (next_serial serial); next = next }

-- carried out: an opening gives the next number
abbrev pub went_on : Bool → ℕ → ℕ → ℕ → Gone
went_on opening count serial next = record {
  refusal = 0;
  given = pick opening next 0;
  carried = 1;
  count = pick opening (count + 1) count;
  serial = next_serial serial;
  next = pick opening (next + 1) next;
}

-- by the refusal or 0
abbrev pub gone_with : ℕ → Bool → ℕ → ℕ → ℕ → Gone
gone_with k opening count serial next = pick (k == 0) (went_on opening count serial next) (stayed k count serial next)

-- K2. While no record was carried out the book has the modes that it was handed over with, and from then on those that a look left
abbrev pub modes_in : Bool → List Bool → List Bool → List Bool
modes_in waiting was modes = pick waiting was modes

-- the book that the arrays are
abbrev pub book_at : At → Marks → List ℕ → List Bool → List Bool → List ℕ → List ℕ → Book
book_at at m w was modes needs numbers = book_from at.count at.serial m w (modes_in at.waiting was modes) needs at.next numbers

abbrev pub book_in : At → List Bool → Lent → Book
book_in at was l = book_at at l.marks l.words was l.modes l.needs l.numbers

-- where it stands after a record that came to x
abbrev pub at_after : At → Gone → At
at_after at x = record { count = x.count; serial = x.serial; next = x.next; waiting = at.waiting && (x.carried == 0) }

-- the arrays are a sound book's. Beside it stand each account's collateral, what is in excess under each account, in tenths, and the modes that a look leaves
pub record Going (at : At) (was : List Bool) (l : Lent) : Type 0 where
  pub size : Sized l.marks l.words
  pub many : length was ≡ 256
  pub wide : length l.needs ≡ 256
  pub keeps : Keeps l.words l.kept
  pub sound : Sound (book_in at was l)
  pub in-excess : DeemedUnder (in_tenths (view (book_in at was l))) l.excess
  pub looks : l.modes ≡ looked (view (book_in at was l)) (modes_in at.waiting was l.modes)

-- a record at such arrays, its account told by the place of its row, came to x, and left the arrays k
pub record Stepped (at : At) (was : List Bool) (l : Lent) (r : Record) (x : Gone) (k : Lent) : Type 0 where
  pub refusal : x.refusal ≡ refusal_shown (change_of (book_in at was l) r)
  pub given : x.given ≡ given_shown at.next (change_of (book_in at was l) r)
  pub carried : x.carried ≡ carried_shown (change_of (book_in at was l) r)
  pub book : book_in (at_after at x) was k ≡ book_after (book_in at was l) r.account (change_of (book_in at was l) r)
  pub ready : Going (at_after at x) was k

-- the record r asks this, its account told by the place of its row, which is live or not, where the serial is due
pub record Asks (alive : Bool) (serial : ℕ) (q : Request) (r : Record) : Type 0 where
  pub coded : r.code ≡ q.code
  pub placed : r.account ≡ q.place
  pub is : meant q.asked ≡ asked_of alive serial r

-- some record does
pub record Asking (alive : Bool) (serial : ℕ) (q : Request) : Type 0 where
  pub of : Record
  pub asks : Asks alive serial q of

-- before it is decided: the words are a sound book's, and some record asks this
abbrev pub ReadyFor : At → List Bool → Lent → Request → Type 0
ReadyFor at was l q =
    Ready at.count at.serial l.marks l.words (modes_in at.waiting was l.modes) l.needs at.next l.numbers × Asking (alive_in l.marks.live at.count q.place) at.serial q

-- each record that asks this was decided and came to x of it, and what stands beside the words is as it was
pub record DecidedFor (at : At) (was : List Bool) (l : Lent) (q : Request) (x : Record → Gone) (k : Lent) : Type 0 where
  pub each : (r : Record) → Asks (alive_in l.marks.live at.count q.place) at.serial q r
      → Decided at.count at.serial l.marks l.words (modes_in at.waiting was l.modes) l.needs at.next l.numbers r (x r) k.marks k.words k.numbers
  pub rest : k ≡ record l { marks = k.marks; words = k.words; numbers = k.numbers }

-- the arrays are a sound book's, and some record asks this
abbrev pub GoingFor : At → List Bool → Lent → Request → Type 0
GoingFor at was l q = Going at was l × Asking (alive_in l.marks.live at.count q.place) at.serial q

-- each record that asks this came to x, and left the arrays k
abbrev pub SteppedFor : At → List Bool → Lent → Request → Gone → Lent → Type 0
SteppedFor at was l q x k = (r : Record) → Asks (alive_in l.marks.live at.count q.place) at.serial q r → Stepped at was l r x k

-- a record whose account is told by its number (K11)
abbrev pub SteppedOn : At → List Bool → Lent → Record → Gone → Lent → Type 0
SteppedOn at was l r = Stepped at was l (placed (book_in at was l) r)
