-- What the tests of one row say as facts, both ways.
use mathlib.Core.Path.{◌≡◌, refl}
use mathlib.Core.Bool.{Bool, true, false, ◌&&◌, ◌||◌}
use mathlib.Core.Logic.{◌⊎◌, inl, inr}
use Prim.Native.Nat.{ℕ}
use lib.Dec.{eqb}
use borrow.Author.Tests.{eqb-true, eq-eqb, leb-true, le-leb, not-true}
use Rattle.sums.proofs.Choices.{and_left, and_right, and-join, or_split, or_left, or_right}
use Rattle.rows.specs.declared.Kinds.{Kinds}
use Rattle.rows.specs.declared.Row.{Row}
use Rattle.rows.specs.declared.Book.{Book}
use Rattle.rows.specs.Rows.{no_kinds, no_row, row_at, mode_at}
use Rattle.rows.specs.Ranges.{kinds_zero, kinds_within, kinds_capped, no_amounts, in_range, ceilings}
use Rattle.rows.specs.Facts.{KindsWithin, InRange}
use Rattle.book.specs.Sound.{is_blank, mode_sound}
use Rattle.book.specs.Facts.{MayBeOn}

pub within→ : (a b : Kinds) → kinds_within a b ≡ true → KindsWithin a b
within→ a b e = search (and_left, and_right, leb-true)

pub within← : (a b : Kinds) → KindsWithin a b → kinds_within a b ≡ true
within← a b h =
    and-join (and-join (and-join (le-leb _ _ h.0) (le-leb _ _ h.1)) (le-leb _ _ h.2)) (le-leb _ _ h.3)

pub capped→ : (k : Kinds) → kinds_capped k ≡ true → KindsWithin k ceilings
capped→ k e = within→ k ceilings e

pub capped← : (k : Kinds) → KindsWithin k ceilings → kinds_capped k ≡ true
capped← k h = within← k ceilings h

pub range→ : (r : Row) → in_range r ≡ true → InRange r
range→ r e = search (and_left, and_right, leb-true, within→, capped→)

pub range← : (r : Row) → InRange r → in_range r ≡ true
range← r h =
    and-join (and-join (and-join (capped← _ h.received) (within← _ _ h.allocated)) (le-leb _ _ h.pledged)) (le-leb _ _ h.margin)

no-kinds : (k : Kinds) → k.cash ≡ 0 → k.deposits ≡ 0 → k.guarantees ≡ 0 → k.securities ≡ 0 → k ≡ no_kinds
no-kinds k c d g s = λ j. record { cash = c j; deposits = d j; guarantees = g j; securities = s j }

pub zero→ : (k : Kinds) → kinds_zero k ≡ true → k ≡ no_kinds
zero→ k e = search (and_left, and_right, eqb-true, no-kinds)

pub zero← : (k : Kinds) → k ≡ no_kinds → kinds_zero k ≡ true
zero← k e = rw e

-- every amount of the row is 0
pub record NoAmounts (r : Row) : Type 0 where
  pub received : r.received ≡ no_kinds
  pub allocated : r.allocated ≡ no_kinds
  pub pledged : r.pledged ≡ 0
  pub margin : r.margin ≡ 0

pub amounts→ : (r : Row) → no_amounts r ≡ true → NoAmounts r
amounts→ r e = search (and_left, and_right, eqb-true, zero→)

pub amounts← : (r : Row) → NoAmounts r → no_amounts r ≡ true
amounts← r h =
    and-join (and-join (and-join (zero← _ h.received) (zero← _ h.allocated)) (eq-eqb _ _ h.pledged)) (eq-eqb _ _ h.margin)

pub blank→ : (r : Row) → is_blank r ≡ true → r ≡ no_row
blank→ r e = λ j. record { sort = c j; live = l j; tm = t j; received = a.received j; allocated = a.allocated j; pledged = a.pledged j; margin = a.margin j }
  where
    c : r.sort ≡ 0
    c = search (and_left, and_right, eqb-true)

    l : r.live ≡ false
    l = search (and_left, and_right, not-true)

    t : r.tm ≡ 0
    t = search (and_left, and_right, eqb-true)

    a : NoAmounts r
    a = search (and_left, and_right, amounts→)

pub blank← : (r : Row) → r ≡ no_row → is_blank r ≡ true
blank← r e = rw e

-- who may be in the mode: the CM or a live TM
module _ (b : Book) (i : ℕ) where
  abbrev live : Bool
  live = (row_at b i).live

  abbrev sort-TM : Bool
  sort-TM = eqb (row_at b i).sort 1

  pub mode→ : mode_sound b i ≡ true → mode_at b i ≡ true → MayBeOn b i
  unfolding mode_sound
  mode→ h e = by (or_split (eqb i 0) (sort-TM && live) (rw e at h))
    where
      by : (eqb i 0 ≡ true) ⊎ ((sort-TM && live) ≡ true) → MayBeOn b i
      by (inl q) = inl (eqb-true i 0 q)
      by (inr q) = inr (eqb-true (row_at b i).sort 1 (and_left sort-TM live q), and_right sort-TM live q)

  pub mode← : (mode_at b i ≡ true → MayBeOn b i) → mode_sound b i ≡ true
  unfolding mode_sound
  mode← h = by (mode_at b i) refl
    where
      on : MayBeOn b i → (eqb i 0 || sort-TM && live) ≡ true
      on (inl e) = or_left (sort-TM && live) (eq-eqb i 0 e)
      on (inr e) = or_right (eqb i 0) (and-join (eq-eqb (row_at b i).sort 1 e.0) e.1)

      by : (m : Bool) → mode_at b i ≡ m → mode_sound b i ≡ true
      by false e = rw e
      by true e = rw e (on (h e))
