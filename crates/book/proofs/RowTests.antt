-- What the test of a row says, and which row the sort may take for a row's TM.
use mathlib.Core.Path.{◌≡◌, sym, ap, ◌∙◌}
use mathlib.Core.Bool.{Bool, true, false, ◌&&◌, and-false}
use Prim.Native.Nat.{ℕ, ◌≤◌, ◌<◌}
use native.Mathlib.Omega.{arith}
use native.Mathlib.Decide.{dec_lt}
use lib.Dec.{eqb, ltb, leb}
use borrow.Author.Tests.{lt-ltb, le-ltb, leb-true, eqb-true}
use Rattle.sums.specs.Sum.{all}
use Rattle.sums.specs.Choice.{pick}
use Rattle.sums.proofs.Sums.{all-at}
use Rattle.sums.proofs.Choices.{pick_yes, and_left, and_split}
use Rattle.rows.specs.declared.Kinds.{Kinds}
use Rattle.rows.specs.declared.Row.{Row}
use Rattle.rows.specs.declared.Rule.TheVariants.{New}
use Rattle.rows.specs.declared.Book.{Book}
use Rattle.rows.specs.Rows.{ceiling, row_at, places}
use Rattle.rows.specs.Ranges.{kinds_capped, kinds_within, in_range, ceilings}
use Rattle.rows.specs.Facts.{KindsWithin, InRange}
use Rattle.book.specs.Sound.{is_blank, is_top, good_client, good_sort, good_retired, good_row, row_sound, mode_sound, numbers_sound, formed_b, kept_by, sound_b}
use Rattle.book.specs.Facts.{Sound}
use Rattle.rows.specs.Inner.{Ranged, Slot}

and-four : (a b c d : Bool) → (a && b && c && d) ≡ true → (a ≡ true) × (b ≡ true) × (c ≡ true) × (d ≡ true)
and-four a b c d h =
    let k = and_split (a && b && c) d h in
    let j = and_split (a && b) c k.0 in
    let i = and_split a b j.0 in
    (i.0, i.1, j.1, k.1)

-- a client that names no lower number is not good, whatever row is taken for its TM
client-out : (i : ℕ) (r t : Row) → i ≤ r.tm → good_client i r t ≡ false
client-out i r t l = simp (le-ltb r.tm i l, and-false)

-- where a row names no place of the table, the row that is taken for its TM does not matter
pub row-slot : (b : Book) (i s : ℕ) → i < 256 → Slot (row_at b i).tm s → good_row b.count i (row_at b i) (row_at b s) ≡ row_sound b i
unfolding row_sound good_row
row-slot b i s l slot = by (dec_lt (row_at b i).tm 256)
  where
    by : Dec ((row_at b i).tm < 256) → good_row b.count i (row_at b i) (row_at b s) ≡ row_sound b i
    by (yes p) = ap (λ (k : ℕ). good_row b.count i (row_at b i) (row_at b k)) (slot.named p)
    by (no p) =
        let r = row_at b i in
        let out : i ≤ r.tm = omega arith in
        rw (client-out i r (row_at b s) out, client-out i r (row_at b r.tm) out)

within : (a b : Kinds) → kinds_within a b ≡ true → KindsWithin a b
within a b h =
    let k = and-four (leb a.cash b.cash) (leb a.deposits b.deposits) (leb a.guarantees b.guarantees) (leb a.securities b.securities) h in
    omega (arith, leb-true)

-- a row whose ranges are tested is in range
pub in-range : (r : Row) → in_range r ≡ true → InRange r
in-range r h =
    let k = and-four (kinds_capped r.received) (kinds_within r.allocated r.received) (leb r.pledged ceiling) (leb r.margin ceiling) h in
    record {
      received = within r.received ceilings k.0;
      allocated = within r.allocated r.received k.1;
      pledged = leb-true _ _ k.2;
      margin = leb-true _ _ k.3;
    }

-- an account's row that passes its test is in range
pub row-range : (n i : ℕ) (r t : Row) → i < n → good_row n i r t ≡ true → InRange r
unfolding good_row
row-range n i r t l h =
    let placed = pick (eqb i 0) (is_top r) (good_sort i r t) && good_retired r in
    in-range r (and_split placed (in_range r) (sym (pick_yes (ltb i n) (placed && in_range r) (is_blank r) (lt-ltb i n l)) ∙ h)).1

-- past the tests of the number and of the rows, no sum can pass a word
pub rows-ranged : (b : Book) → places b ≡ 256 → b.count ≤ 256 → all 256 (row_sound b) ≡ true → Ranged b
unfolding row_sound
rows-ranged b table most h =
    record {
      table = table;
      most = most;
      ranges = λ i l. row-range b.count i (row_at b i) (row_at b (row_at b i).tm) l (all-at 256 (row_sound b) h i (omega arith));
    }

pub sound-test-ranged : (b : Book) → sound_b b ≡ true → Ranged b
unfolding sound_b formed_b
sound-test-ranged b h =
    let j = and-four (leb 1 b.count) (leb b.count 256) (all 256 (row_sound b)) (eqb (places b) 256) (and_left _ (all 256 (mode_sound b)) (and_left _ (numbers_sound b.count b.next b.numbers) (and_split (formed_b b) (kept_by New b) h).0)) in
    rows-ranged b (eqb-true _ _ j.3) (leb-true _ _ j.1) j.2

pub sound-ranged : (b : Book) → Sound b → Ranged b
sound-ranged b s = record { table = s.table; most = s.most; ranges = s.ranges }
