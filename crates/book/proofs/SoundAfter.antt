-- A sound book's rows stay sound: after each change of one row, after an opening, and whatever its serial. With a look the book is sound
-- again (book.Settled).
use mathlib.Core.Path.{◌≡◌, refl, sym, ◌∙◌, ap}
use mathlib.Core.Bool.{true, false}
use mathlib.Core.Logic.{◌⊎◌}
use Prim.Native.Nat.{ℕ, ◌+◌, ◌-◌, ◌≤◌, ◌<◌}
use native.Mathlib.Omega.{arith}
use native.Mathlib.Decide.{ℕ_discrete}
use Rattle.sums.proofs.Choices.{test-clash}
use Rattle.rows.specs.declared.Kinds.{Kinds}
use Rattle.rows.specs.declared.Row.{Row}
use Rattle.rows.specs.declared.Book.{Book}
use Rattle.rows.specs.Facts.{KindsWithin, InRange}
use Rattle.rows.specs.Ranges.{ceilings, no_amounts}
use Rattle.rows.specs.Rows.{ceiling, row_at, view, opened_row, plus_kinds, less_kinds, with_received, with_allocated, with_pledged, with_margin, with_live, places, with_serial, with_row, with_new}
use Rattle.book.specs.Facts.{SoundRows, Sound}
use Rattle.book.proofs.Settled.{sound-rows, rows-alone, with_rest}
use Rattle.rows.proofs.RowPut.{row_other, row-places, new-places, opened-new, opened-below, opened-above}
use Rattle.book.proofs.Opens.{Opened, opened-shaped}
use Rattle.book.proofs.NumbersPut.{numbered-on}
use Rattle.book.proofs.OneRow.{at_all, same-sort, same-tm, row-shaped, row_opened}

-- soundness doesn't look at the serial
pub serial-rows : (b : Book) (n : ℕ) → SoundRows b → SoundRows (with_serial b n)
serial-rows b n s = rows-alone b n b.modes b.needs s

pub serial-sound : (b : Book) (n : ℕ) → Sound b → Sound (with_serial b n)
serial-sound b n s = with_rest (with_serial b n) (serial-rows b n (sound-rows b s)) s.modes s.kept

-- an account's row is in the table
pub in_table : (b : Book) → Sound b → (i : ℕ) → i < b.count → i < places b
in_table b s i m = omega (arith, s.table, s.most)

-- row i changes, keeps sort and TM, and is in range; a client that is live after it has a live TM
module _ (b : Book) (s : Sound b) (i : ℕ) (m : i < b.count) (r : Row) (ec : r.sort ≡ (row_at b i).sort) (et : r.tm ≡ (row_at b i).tm) where
  row-sound : InRange r → (r.live ≡ false → no_amounts r ≡ true) → (row_at (with_row b i r) 0).live ≡ true
      → ((j : ℕ) → j < b.count → (row_at b j).sort ≡ 2 → (row_at (with_row b i r) j).live ≡ true → (row_at (with_row b i r) (row_at b j).tm).live ≡ true)
      → SoundRows (with_row b i r)
  row-sound ranges retired top tms = record {
    table = row-places b i r ∙ s.table;
    most = s.most;
    top-live = top;
    blank = λ j h. row_other b i j r (λ e. omega arith) ∙ s.blank j h;
    shaped = row-shaped b i r l ec et s.shaped;
    no-tm = λ j h ne. tm j ∙ s.no-tm j h (λ e. ne (sort j ∙ e));
    tm-live = λ j h e p. rw (tm j) (tms j h (sym (sort j) ∙ e) p);
    retired = λ j h. at_all (λ k x y. (y.live ≡ false → no_amounts y ≡ true) → x.live ≡ false → no_amounts x ≡ true) b i r l
        (λ q. retired) (λ k q. q) j (s.retired j h);
    ranges = λ j h. at_all (λ k x y. InRange y → InRange x) b i r l (λ q. ranges) (λ k q. q) j (s.ranges j h);
    numbered = s.numbered;
  }
    where
      l : i < places b
      l = in_table b s i m

      sort : (j : ℕ) → (row_at (with_row b i r) j).sort ≡ (row_at b j).sort
      sort = same-sort b i r l ec et

      tm : (j : ℕ) → (row_at (with_row b i r) j).tm ≡ (row_at b j).tm
      tm = same-tm b i r l ec et

module _ (b : Book) (s : Sound b) (i : ℕ) (m : i < b.count) (live : (row_at b i).live ≡ true) where
  -- a live row's amounts change within the ranges
  amounts-sound : (r : Row) → r.sort ≡ (row_at b i).sort → r.tm ≡ (row_at b i).tm → r.live ≡ true → InRange r → SoundRows (with_row b i r)
  amounts-sound r ec et el f =
      row-sound b s i m r ec et f (test-clash el) (lives 0 ∙ s.top-live)
      (λ j h e p. lives (row_at b j).tm ∙ s.tm-live j h e (sym (lives j) ∙ p))
    where
      lives : (j : ℕ) → (row_at (with_row b i r) j).live ≡ (row_at b j).live
      lives = at_all (λ j x y. x.live ≡ y.live) b i r (in_table b s i m) (el ∙ sym live) (λ j. refl)

  -- 10 does not apply
  pub receive-sound : (k : Kinds) → KindsWithin (plus_kinds (row_at b i).received k) ceilings
      → SoundRows (with_row b i (with_received (row_at b i) (plus_kinds (row_at b i).received k)))
  receive-sound k h = amounts-sound _ refl refl live (omega (arith, s.ranges i m))

  -- 11 does not apply
  pub hand-back-sound : (k : Kinds) → KindsWithin k (less_kinds (row_at b i).received (row_at b i).allocated)
      → SoundRows (with_row b i (with_received (row_at b i) (less_kinds (row_at b i).received k)))
  hand-back-sound k h = amounts-sound _ refl refl live (omega (arith, s.ranges i m))

  pub allocate-sound : (k : Kinds) → KindsWithin k (less_kinds (row_at b i).received (row_at b i).allocated)
      → SoundRows (with_row b i (with_allocated (row_at b i) (plus_kinds (row_at b i).allocated k)))
  allocate-sound k h = amounts-sound _ refl refl live (omega (arith, s.ranges i m))

  pub release-sound : (k : Kinds) → KindsWithin k (row_at b i).allocated
      → SoundRows (with_row b i (with_allocated (row_at b i) (less_kinds (row_at b i).allocated k)))
  release-sound k h = amounts-sound _ refl refl live (omega (arith, s.ranges i m))

  -- 10 does not apply
  pub pledge-sound : (y : ℕ) → (row_at b i).pledged + y ≤ ceiling → SoundRows (with_row b i (with_pledged (row_at b i) ((row_at b i).pledged + y)))
  pledge-sound y h = amounts-sound _ refl refl live (omega (arith, s.ranges i m))

  -- 11 does not apply
  pub unpledge-sound : (y : ℕ) → y ≤ (row_at b i).pledged → SoundRows (with_row b i (with_pledged (row_at b i) ((row_at b i).pledged - y)))
  unpledge-sound y h = amounts-sound _ refl refl live (omega (arith, s.ranges i m))

  -- what is pledged, and the margin, may be set to any amount within the ceiling (K8)
  pub set-pledged-sound : (y : ℕ) → y ≤ ceiling → SoundRows (with_row b i (with_pledged (row_at b i) y))
  set-pledged-sound y h = amounts-sound _ refl refl live (omega (arith, s.ranges i m))

  pub margin-sound : (y : ℕ) → y ≤ ceiling → SoundRows (with_row b i (with_margin (row_at b i) y))
  margin-sound y h = amounts-sound _ refl refl live (omega (arith, s.ranges i m))

-- 7, 8 and 14 do not apply
module _ (b : Book) (s : Sound b) (i : ℕ) (m : i < b.count) (ne : i ≡ 0 → ⊥) (none : no_amounts (row_at b i) ≡ true)
    (alone : (j : ℕ) → j < b.count → (row_at b j).sort ≡ 2 → (row_at b j).tm ≡ i → (row_at b j).live ≡ true → ⊥) where
  abbrev gone : Row
  gone = with_live (row_at b i) false

  pub retire-sound : SoundRows (with_row b i (with_live (row_at b i) false))
  retire-sound =
      row-sound b s i m gone refl refl (same-range (s.ranges i m)) (λ q. none)
      (ap (λ r. r.live) (row_other b i 0 gone (λ e. ne (sym e))) ∙ s.top-live)
      (λ j h e p. tms j h e (at_all (λ j x y. x.live ≡ true → y.live ≡ true) b i gone (in_table b s i m) (λ q. test-clash q refl) (λ j q. q) j p)
      (ℕ_discrete (row_at b j).tm i))
    where
      same-range : InRange (row_at b i) → InRange gone
      same-range f = record { received = f.received; allocated = f.allocated; pledged = f.pledged; margin = f.margin }

      tms : (j : ℕ) → j < b.count → (row_at b j).sort ≡ 2 → (row_at b j).live ≡ true → Dec ((row_at b j).tm ≡ i)
          → (row_at (with_row b i gone) (row_at b j).tm).live ≡ true
      tms j h e p (yes q) = absurd (alone j h e q p)
      tms j h e p (no q) = ap (λ r. r.live) (row_other b i (row_at b j).tm gone q) ∙ s.tm-live j h e p

-- 7, 8 and 9 do not apply: sort 1, 2 or 3, and for 2 a live TM
module _ (b : Book) (s : Sound b) (c t : ℕ) (room : b.count < 256) (more : b.next < 65536) (sort : (c ≡ 1) ⊎ ((c ≡ 2) ⊎ (c ≡ 3)))
    (tm : c ≡ 2 → (t < b.count) × ((row_at b t).sort ≡ 1) × ((row_at b t).live ≡ true)) (no-tm : (c ≡ 2 → ⊥) → t ≡ 0) where
  abbrev opened : Book
  opened = with_new b (opened_row c t)

  space : b.count < places b
  space = omega (arith, s.table)

  one_more : Opened (view b) (view opened)
  one_more = row_opened b (opened_row c t) space refl sort (λ e. ((tm e).0, (tm e).1))

  -- what holds of the new row, and of each that was there, holds of all
  each : (P : Row → Type 0) → P (opened_row c t) → ((j : ℕ) → j < b.count → P (row_at b j)) → (j : ℕ) → j < b.count + 1 → P (row_at opened j)
  each P p q j l = by (ℕ_discrete j b.count)
    where
      by : Dec (j ≡ b.count) → P (row_at opened j)
      by (yes e) = rw e (rw (opened-new b (opened_row c t) space) p)
      by (no e) = rw (opened-below b (opened_row c t) space j (omega arith)) (q j (omega arith))

  still-live : (j : ℕ) → j < b.count → (row_at b j).live ≡ true → (row_at opened j).live ≡ true
  still-live j l p = ap (λ r. r.live) (opened-below b (opened_row c t) space j l) ∙ p

  pub open-sound : SoundRows (with_new b (opened_row c t))
  open-sound = record {
    table = new-places b (opened_row c t) ∙ s.table;
    most = omega arith;
    top-live = still-live 0 s.shaped.some s.top-live;
    blank = λ j h. opened-above b (opened_row c t) space j (omega arith) ∙ s.blank j (omega arith);
    shaped = opened-shaped (view b) (view opened) one_more s.shaped;
    no-tm = each (λ r. (r.sort ≡ 2 → ⊥) → r.tm ≡ 0) no-tm s.no-tm;
    tm-live = each (λ r. r.sort ≡ 2 → r.live ≡ true → (row_at opened r.tm).live ≡ true) (λ e p. still-live t (tm e).0 (tm e).2)
        (λ j l e p. still-live (row_at b j).tm (omega (arith, (s.shaped.tms j l e).0)) (s.tm-live j l e p));
    retired = each (λ r. r.live ≡ false → no_amounts r ≡ true) (λ q. refl) s.retired;
    ranges = each InRange (omega arith) s.ranges;
    numbered = numbered-on room more s.shaped.some s.numbered;
  }
