-- The pass over the rows, one more each time.
use mathlib.Core.Bool.{Bool, true, false, ◌||◌, or-false}
use mathlib.Core.List.{List}
use mathlib.Core.Path.{◌≡◌, refl, sym, ap, ◌∙◌}
use Prim.Native.Nat.{ℕ, ◌+◌, ◌≤◌, ◌<◌}
use native.Mathlib.Omega.{arith}
use native.Mathlib.Numerals.{add-one}
use mir.Val.{bool_byte}
use lib.ListN.{length, get_or, set, replicate, length-set}
use borrow.Author.Tests.{lt-leb}
use Rattle.sums.specs.Sum.{only}
use Rattle.sums.proofs.Lists.{filled-step}
use Rattle.rows.specs.declared.Row.{Row}
use Rattle.rows.specs.declared.Book.{Book}
use Rattle.rows.specs.Rows.{no_row, row_at, mode_at, need_at, number_at}
use Rattle.table.specs.declared.Table.{Table}
use Rattle.table.specs.Words.{row_in, rows_of, turned_back}
use Rattle.table.specs.Facts.{Sized}
use Rattle.table.proofs.Gathered.{row-in}
use Rattle.gaps.specs.Gaps.{place_after, with_tm, moved_row, kept_of, archived}
use Rattle.gaps.specs.Inner.{closed_to, slid, RowSlid, Closable}
use Rattle.gaps.proofs.Places.{place_none, place-step, place-most}
use Rattle.gaps.proofs.Closing.{closed-start, closed-next, closed-step, closed-end}

-- a row kept, as it is then
abbrev pub moved : Book → ℕ → Row
moved b j = moved_row (kept_of b) (row_at b j)

-- where the loop stands: the book's lists after the rows below i are passed, and the places of those
pub record Going (b : Book) (i k : ℕ) (t : Table) (to : List ℕ) : Type 0 where
  pub size : Sized t.marks t.amounts
  pub serial : t.serial ≡ b.serial
  pub rows_are : rows_of t.marks t.amounts ≡ closed_to (kept_of b) (moved b) no_row b.rows i
  pub modes-are : t.modes ≡ closed_to (kept_of b) (mode_at b) false b.modes i
  pub needs-are : t.needs ≡ closed_to (kept_of b) (need_at b) 0 b.needs i
  pub next : t.next ≡ b.next
  pub numbers-are : t.numbers ≡ closed_to (kept_of b) (number_at b) 0 b.numbers i
  pub place : k ≡ place_after (kept_of b) i
  pub to-size : length to ≡ 256
  pub told : (j : ℕ) → j < i → get_or to j 0 ≡ place_after (kept_of b) j

pub going_start : (t : Table) → Sized t.marks t.amounts → Going (turned_back t) 0 0 t (replicate 256 0)
going_start t z =
    let b = turned_back t in
    record {
      size = z;
      serial = refl;
      rows_are = sym (closed-start (kept_of b) (moved b) no_row b.rows);
      modes-are = sym (closed-start (kept_of b) (mode_at b) false b.modes);
      needs-are = sym (closed-start (kept_of b) (need_at b) 0 b.needs);
      next = refl;
      numbers-are = sym (closed-start (kept_of b) (number_at b) 0 b.numbers);
      place = sym (place_none (kept_of b));
      to-size = refl;
      told = λ j l. absurd (omega arith);
    }

pub place-low : {b : Book} {i k : ℕ} {t : Table} {to : List ℕ} → Going b i k t to → k ≤ i
place-low {b} {i} g = omega (arith, g.place, place-most (kept_of b) i)

pub one_if : (t : Bool) → bool_byte t ≡ only t 1
one_if true = refl
one_if false = refl

-- a row held is kept where it is live
pub kept-held : (b : Book) (i : ℕ) → i < b.count → kept_of b i ≡ (row_at b i).live
kept-held b i l = ap (λ t. (row_at b i).live || t) (lt-leb b.count i l) ∙ or-false (row_at b i).live

module _ (b : Book) (p : Closable b) where
  module _ {i k : ℕ} {t : Table} {to : List ℕ} (l : i < b.count) (g : Going b i k t to) where
    -- the row that comes next is as it was
    next_row : row_in t.marks t.amounts i ≡ row_at b i
    next_row =
        sym (row-in t.marks t.amounts i (omega (arith, p.most))) ∙ closed-next (kept_of b) (moved b) no_row b.rows i (omega (arith, p.rows, p.most)) g.rows_are

    pub tm-inside : get_or t.marks.tm i 0 < 256
    tm-inside = let e = ap (λ r. r.tm) next_row in omega (arith, p.tms i l, p.most)

    now-told : (j : ℕ) → j < i + 1 → get_or (set to i k) j 0 ≡ place_after (kept_of b) j
    now-told = filled-step (place_after (kept_of b)) to 0 i k (omega (arith, g.to-size, p.most)) g.told g.place

    -- its TM's place is told
    its-tm : with_tm (row_in t.marks t.amounts i) (get_or (set to i k) (get_or t.marks.tm i 0) 0) ≡ moved b i
    its-tm =
        ap (λ r. with_tm r (get_or (set to i k) r.tm 0)) next_row
        ∙ ap (with_tm (row_at b i)) (now-told (row_at b i).tm (omega (arith, p.tms i l)))

    -- one row more is passed
    pub going_on : {kept : Bool} {u : Table} {k' : ℕ} → RowSlid t.marks t.amounts (set to i k) k i kept u.marks u.amounts
        → u.modes ≡ slid kept t.modes k i (get_or t.modes i false) false → u.needs ≡ slid kept t.needs k i (get_or t.needs i 0) 0
        → u.numbers ≡ slid kept t.numbers k i (get_or t.numbers i 0) 0 → u.serial ≡ t.serial → u.next ≡ t.next → k' ≡ k + only kept 1
        → Going b (i + 1) k' u (set to i k)
    going_on {kept} s em en ex es et ek =
        let e : kept ≡ kept_of b i = s.kept ∙ ap (λ r. r.live) next_row ∙ sym (kept-held b i l) in
        let few = p.most in
        record {
          size = s.size;
          serial = es ∙ g.serial;
          next = et ∙ g.next;
          rows_are =
              s.rows ∙ rw (add-one i) (closed-step (kept_of b) (moved b) no_row b.rows i (omega (arith, p.rows)) g.rows_are e g.place its-tm);
          modes-are =
              em ∙ rw (add-one i) (closed-step (kept_of b) (mode_at b) false b.modes i (omega (arith, p.modes)) g.modes-are e g.place
              (closed-next (kept_of b) (mode_at b) false b.modes i (omega (arith, p.modes)) g.modes-are));
          needs-are =
              en ∙ rw (add-one i) (closed-step (kept_of b) (need_at b) 0 b.needs i (omega (arith, p.needs)) g.needs-are e g.place
              (closed-next (kept_of b) (need_at b) 0 b.needs i (omega (arith, p.needs)) g.needs-are));
          numbers-are =
              ex ∙ rw (add-one i) (closed-step (kept_of b) (number_at b) 0 b.numbers i (omega (arith, p.numbers)) g.numbers-are e g.place
              (closed-next (kept_of b) (number_at b) 0 b.numbers i (omega (arith, p.numbers)) g.numbers-are));
          place = rw (add-one i, place-step (kept_of b) i, ← e, ← g.place) ek;
          to-size = length-set to i k ∙ g.to-size;
          told = now-told;
        }

  -- THE LAW: what the pass leaves is the archived book
  pub going_end : {k : ℕ} {t : Table} {to : List ℕ} → Going b b.count k t to → turned_back (record t { count = k }) ≡ archived b
  unfolding archived
  going_end g = rw (
    g.place,
    g.serial,
    g.rows_are ∙ closed-end (kept_of b) (moved b) no_row b.rows b.count p.rows p.most p.no-row,
    g.modes-are ∙ closed-end (kept_of b) (mode_at b) false b.modes b.count p.modes p.most p.no_mode,
    g.needs-are ∙ closed-end (kept_of b) (need_at b) 0 b.needs b.count p.needs p.most p.no-need,
    g.next,
    g.numbers-are ∙ closed-end (kept_of b) (number_at b) 0 b.numbers b.count p.numbers p.most p.no_number,
  )
